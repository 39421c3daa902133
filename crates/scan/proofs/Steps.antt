-- What stands first in bytes of a file, as the scanner's functions take it.
use Rattle.std.proofs.Common.{◌≡◌, ℕ, zero, suc, ◌+◌, ◌-◌, ◌*◌, ◌<◌, ◌≤◌, Bool, true, false, cond, eqb, not, ◌≢◌, ◌⊎◌, inl, inr, List, [], ◌∷◌, ◌++◌, length, get_or, take, drop, Some, None, Ok, Option, sym, refl, ap, ◌∙◌, subst, add-zero, add-one, arith}
use Rattle.std.specs.List.{position, position_or_len, prefix_len, slice_get}
use Rattle.std.proofs.lemmas.List.{drop-drop, length-drop, take_rest}
use Rattle.std.proofs.lemmas.List.Quantifiers.{position-Some}
use Rattle.std.proofs.lemmas.Bool.{ne_eqb, eqb-true, cases_lt, eqb-false, not-true, lt-ltb, true≢false}
use Rattle.std.proofs.lemmas.List.Sums.{prefix_len_passes}
use Rattle.scan.specs.declared.ByteKind.{ByteKind}
use Rattle.scan.specs.declared.ByteKind.TheVariants.{Digit, Space, Feed, Open, Close, Comma, Header, Comment, Other}
use Rattle.scan.specs.declared.Token.{Token}
use Rattle.scan.specs.declared.Token.TheVariants as token
use Rattle.scan.specs.declared.scanner.Scanner.{Scanner}
use Rattle.scan.specs.declared.scanner.Position.{Position}
use Rattle.scan.specs.declared.scanner.Position.TheVariants.{LineStart, FirstByte, Within}
use Rattle.scan.specs.Words.{Word, line, header, stray, number, unknown, end, cut, Placed}
use Rattle.scan.specs.Bytes.{digit, kind, line_start, first_byte, in_line, in_comment, in_number, words, gives, goes}
use Rattle.scan.specs.Scans.{mode, line_mode, is_first, single_token, word_of, final, Small, TokenFirst, LineFirst, NoSpaceFirst, WordFirst, ahead, at_start, Falls}
use Rattle.scan.specs.Text.{IsDigit, value}
use Rattle.scan.proofs.OfKind.{of_kind, is_digit, digit_is, digit_kind}

-- Lines and comments.

comment_out :
    (t : List ℕ) (k i : ℕ) → k < length t → eqb (get_or t k 0) 10 ≡ true → ((j : ℕ) → j < k → eqb (get_or t j 0) 10 ≡ false) →
    words in_comment i t ≡ words line_start (i + suc k) (drop (suc k) t)
unfolding words
comment_out [] k i l e o = absurd (omega arith)
comment_out (b ∷ t) zero i l e o = rw e
comment_out (b ∷ t) (suc k) i l e o =
    let q : i + suc (suc k) ≡ i + 1 + suc k = omega arith in
    rw (o 0 (omega arith), q) (comment_out t k (i + 1) (omega arith) e (λ j h. o (suc j) (omega arith)))

comment_cut : (t : List ℕ) (i : ℕ) → ((j : ℕ) → j < length t → eqb (get_or t j 0) 10 ≡ false) → words in_comment i t ≡ (i + length t, cut) ∷ []
unfolding words
comment_cut [] i o = rw add-zero
comment_cut (b ∷ t) i o =
    let q : i + suc (length t) ≡ i + 1 + length t = omega arith in rw (o 0 (omega arith), q) (comment_cut t (i + 1) (λ j h. o (suc j) (omega arith)))

-- what is left after whole comments, from the start of a line on
pub record PastComments (bs rest : List ℕ) : Type 0 where
  pub past : ℕ
  pub many : past + length rest ≡ length bs
  pub left : rest ≡ drop past bs
  pub same : (i : ℕ) → words line_start i bs ≡ words line_start (i + past) rest

pub none_past : (bs : List ℕ) → PastComments bs bs
none_past bs = record { past = 0; many = omega arith; left = refl; same = λ i. rw add-zero refl }

comment_first : (rest : List ℕ) (i : ℕ) → slice_get rest 0 ≡ Some 99 → words line_start i rest ≡ words in_comment i rest
unfolding words
comment_first [] i e = cc
comment_first (b ∷ t) i e = let q : b ≡ 99 = cc in rw q

pub one_past : (bs rest : List ℕ) (k : ℕ) → PastComments bs rest → slice_get rest 0 ≡ Some 99 → position (λ b. eqb b 10) rest ≡ Some k → PastComments bs (drop (k + 1) rest)
one_past bs rest k p e o =
    let q = position-Some (λ b. eqb b 10) rest k 0 o in
    record {
      past = p.past + (k + 1);
      many = simp length-drop (omega (arith, p.many, q.0));
      left = ap (drop (k + 1)) p.left ∙ drop-drop (k + 1) p.past bs;
      same = λ i.
          p.same i ∙ comment_first rest (i + p.past) e ∙ comment_out rest k (i + p.past) q.0 q.1 q.2 ∙
          (let a : i + p.past + suc k ≡ i + (p.past + (k + 1)) = omega arith in rw (a, add-one));
    }

no_feed : (xs : List ℕ) → position (λ b. eqb b 10) xs ≡ None → (j : ℕ) → j < length xs → eqb (get_or xs j 0) 10 ≡ false
no_feed xs o j h = at (cases_lt (position_or_len (λ b. eqb b 10) xs) (length xs))
  where
    at : (position_or_len (λ b. eqb b 10) xs < length xs) ⊎ (length xs ≤ position_or_len (λ b. eqb b 10) xs) → eqb (get_or xs j 0) 10 ≡ false
    at (inl l) = absurd (let q = rw (lt-ltb (position_or_len (λ b. eqb b 10) xs) (length xs) l) at o in cc)
    at (inr l) = not-true _ (prefix_len_passes (λ x. not (eqb x 10)) xs j 0 (omega arith))

pub cut_in_comment :
    (bs rest : List ℕ) → PastComments bs rest → slice_get rest 0 ≡ Some 99 → position (λ b. eqb b 10) rest ≡ None →
    LineFirst bs (length bs, token.Cut)
cut_in_comment bs rest p e o = (
  omega arith,
  (λ i.
      p.same i ∙ comment_first rest (i + p.past) e ∙ comment_cut rest (i + p.past) (no_feed rest o) ∙
      ap (λ (z : ℕ). (z, cut) ∷ []) (omega (arith, p.many))),
  tt,
  (λ q. absurd (true≢false q)),
)

-- what begins a line that is no comment
line_opens : (rest : List ℕ) (i b : ℕ) → slice_get rest 0 ≡ Some b → b ≢ 99 → words line_start i rest ≡ (i, line) ∷ words first_byte i rest
unfolding words
line_opens [] i b e n = cc
line_opens (x ∷ t) i b e n = let q : b ≡ x = cc in rw (ne_eqb x 99 (rw q at n))

file_ends : (i : ℕ) → words line_start i [] ≡ (i, end) ∷ []
unfolding words
file_ends i = refl

pub line_found : (bs rest : List ℕ) → (b : ℕ) → PastComments bs rest → slice_get rest 0 ≡ Some b → b ≢ 99 → LineFirst bs (length bs - length rest, token.Line)
line_found bs rest b p e m =
    let n : length bs - length rest ≡ p.past = omega (arith, p.many) in
    rw n (omega (arith, p.many), (λ i. p.same i ∙ line_opens rest (i + p.past) b e m ∙ ap (λ (z : List ℕ). (i + p.past, line) ∷ words first_byte (i + p.past) z) p.left), tt, (λ q. refl))

nothing_there : (xs : List ℕ) → slice_get xs 0 ≡ None → xs ≡ []
nothing_there [] e = refl
nothing_there (x ∷ xs) e = cc

pub end_found : (bs rest : List ℕ) → PastComments bs rest → slice_get rest 0 ≡ None → LineFirst bs (length bs, token.End)
end_found bs rest p e =
    let none : rest ≡ [] = nothing_there rest e in
    let n : length bs ≡ p.past = omega (arith, p.many, ap length none) in
    rw n (omega (arith, p.many), (λ i. p.same i ∙ ap (words line_start (i + p.past)) none ∙ file_ends (i + p.past)), tt, (λ q. absurd (true≢false q)))

-- what a scanner answers at the start of a line
pub line_answered :
    (s s' : Scanner) (rest : List ℕ) (r : ℕ × Token) (i : ℕ) → s.position ≡ LineStart → rest ≡ drop s.at s.bytes.now → LineFirst rest r →
    s'.bytes.now ≡ s.bytes.now → s'.at ≡ s.at + r.0 → (r.1 ≡ token.Line → s'.position ≡ FirstByte) → i ≡ s'.at →
    TokenFirst (ahead s) i r.1 s' × Falls s s' (Ok (i, r.1))
line_answered s s' rest r i p e f b a n h = (
  (
    ap (λ (z : Position). words (mode z) s.at (drop s.at s.bytes.now)) p ∙ ap (words line_start s.at) (sym e) ∙ f.1 s.at ∙
        ap (λ (z : ℕ). (z, word_of r.1) ∷ cond (final r.1) [] (words first_byte (s.at + r.0) (drop r.0 rest))) (sym a ∙ sym h) ∙
        ap (λ (z : List Placed). (i, word_of r.1) ∷ z) (left_over (final r.1) refl),
    f.2,
  ),
  (λ q. omega (arith, ap at_start p, ap at_start (n (f.3 q)), ap length b, f.0, ap length e, length-drop s.at s.bytes.now)),
)
  where
    left_over : (x : Bool) → final r.1 ≡ x → cond (final r.1) [] (words first_byte (s.at + r.0) (drop r.0 rest)) ≡ cond (final r.1) [] (ahead s')
    left_over true q = rw q refl
    left_over false q = rw (q, n (f.3 q), a, b, e) (ap (words first_byte (s.at + r.0)) (drop-drop r.0 s.at s.bytes.now))

-- Within a line.

abbrev is_space : ℕ → Bool
is_space b = eqb b 32

spaces_taken : (t : List ℕ) (i : ℕ) → words in_line i t ≡ words in_line (i + prefix_len is_space t) (drop (prefix_len is_space t) t)
unfolding words
spaces_taken [] i = rw add-zero
spaces_taken (b ∷ t) i = at (is_space b) refl (spaces_taken t (i + 1))
  where
    at :
        (x : Bool) → is_space b ≡ x →
        words in_line (i + 1) t ≡ words in_line (i + 1 + prefix_len is_space t) (drop (prefix_len is_space t) t) →
        words in_line i (b ∷ t) ≡ words in_line (i + prefix_len is_space (b ∷ t)) (drop (prefix_len is_space (b ∷ t)) (b ∷ t))
    at true e later =
        let q : i + (1 + prefix_len is_space t) ≡ i + 1 + prefix_len is_space t = omega arith in
        let one : 1 + prefix_len is_space t ≡ suc (prefix_len is_space t) = omega arith in
        let k : b ≡ 32 = eqb-true b 32 e in
        rw k (rw (q, one) later)
    at false e later = let q : i + 0 ≡ i = omega arith in rw e (rw (e, q))

number_taken :
    (t : List ℕ) (p v i : ℕ) →
    words (in_number p v) i t ≡ (p, number (value v (take (prefix_len digit t) t))) ∷ words in_line (i + prefix_len digit t) (drop (prefix_len digit t) t)
unfolding words
number_taken [] p v i = rw add-zero
number_taken (b ∷ t) p v i = at (digit b) refl (number_taken t p (v * 10 + (b - 48)) (i + 1))
  where
    at :
        (x : Bool) → digit b ≡ x →
        words (in_number p (v * 10 + (b - 48))) (i + 1) t ≡
        (p, number (value (v * 10 + (b - 48)) (take (prefix_len digit t) t))) ∷ words in_line (i + 1 + prefix_len digit t) (drop (prefix_len digit t) t) →
        words (in_number p v) i (b ∷ t) ≡ (p, number (value v (take (prefix_len digit (b ∷ t)) (b ∷ t)))) ∷ words in_line (i + prefix_len digit (b ∷ t)) (drop (prefix_len digit (b ∷ t)) (b ∷ t))
    at true e later =
        let q : i + (1 + prefix_len digit t) ≡ i + 1 + prefix_len digit t = omega arith in
        let one : 1 + prefix_len digit t ≡ suc (prefix_len digit t) = omega arith in
        rw e (rw (q, one) later)
    at false e later = let q : i + 0 ≡ i = omega arith in rw e (rw (e, q))

-- what a p is, and what a byte of a kind makes in a line with what is after it
abbrev p_word : Bool → Word
p_word true = header
p_word false = stray

abbrev step : ByteKind → Bool → ℕ → ℕ → List ℕ → List Placed
step k f i b bs = gives k i (p_word f) ++ words (goes k i b) (i + 1) bs

step_in : (f : Bool) (i b : ℕ) (t : List ℕ) → words (line_mode f) i (b ∷ t) ≡ step (kind b) f i b t
unfolding words
step_in true i b t = refl
step_in false i b t = refl

-- a byte that is a token by itself, and one that is none
abbrev pub Single : Option (Token × Position) → ByteKind → List Placed → ℕ → List ℕ → Type 0
Single None k ws i bs = (k ≡ Digit → ⊥) → (k ≡ Space → ⊥) → ws ≡ (i, unknown) ∷ words in_line (i + 1) bs
Single (Some x) k ws i bs = (ws ≡ (i, word_of x.0) ∷ words (mode x.1) (i + 1) bs) × (final x.0 ≡ false) × Small x.0

single : (k : ByteKind) (f : Bool) (i b : ℕ) (bs : List ℕ) → Single (single_token k f) k (step k f i b bs) i bs
single Digit f i b bs = λ d s. absurd (d refl)
single Space f i b bs = λ d s. absurd (s refl)
single Feed f i b bs = (refl, refl, tt)
single Open f i b bs = (refl, refl, tt)
single Close f i b bs = (refl, refl, tt)
single Comma f i b bs = (refl, refl, tt)
single Header true i b bs = (refl, refl, tt)
single Header false i b bs = (refl, refl, tt)
single Comment f i b bs = λ d s. refl
single Other f i b bs = λ d s. refl

cut_in : (f : Bool) (i : ℕ) → words (line_mode f) i [] ≡ (i, cut) ∷ []
unfolding words
cut_in true i = refl
cut_in false i = refl

pub cut_first : (f : Bool) (p : Position) (bs : List ℕ) → slice_get bs 0 ≡ None → WordFirst f bs (record { token = Ok token.Cut; length = 0; next = p })
cut_first f p [] e = (omega arith, ((λ i. cut_in f i), tt, (λ q. absurd (true≢false q))))
cut_first f p (b ∷ t) e = cc

-- the first byte's token by itself, or that it has none
pub single_first : (f : Bool) (bs : List ℕ) (b : ℕ) (i : ℕ) → slice_get bs 0 ≡ Some b → (o : Option (Token × Position)) → o ≡ single_token (kind b) f → Single o (kind b) (words (line_mode f) i bs) i (drop 1 bs)
single_first f [] b i e o s = cc
single_first f (x ∷ t) b i e o s =
    let q : x ≡ b = cc in
    subst (λ (z : Option (Token × Position)). Single z (kind b) (words (line_mode f) i (x ∷ t)) i t) (sym s)
    (subst (λ (z : ℕ). Single (single_token (kind z) f) (kind z) (words (line_mode f) i (x ∷ t)) i t) q
    (subst (λ (z : List Placed). Single (single_token (kind x) f) (kind x) z i t) (sym (step_in f i x t)) (single (kind x) f i x t)))

-- the first bytes' number
pub number_first :
    (f : Bool) (bs : List ℕ) (b : ℕ) → slice_get bs 0 ≡ Some b → kind b ≡ Digit →
    (0 < prefix_len digit bs) ×
    ((i : ℕ) → words (line_mode f) i bs ≡ (i, number (value 0 (take (prefix_len digit bs) bs))) ∷ words in_line (i + prefix_len digit bs) (drop (prefix_len digit bs) bs))
number_first f [] b e k = cc
number_first f (x ∷ t) b e k =
    let q : b ≡ x = cc in
    let d : digit x ≡ true = is_digit x (of_kind x Digit (rw q at k)) in
    let one : 1 + prefix_len digit t ≡ suc (prefix_len digit t) = omega arith in
    rw d (
      omega arith,
      (λ i.
          step_in f i x t ∙ rw (digit_kind x (digit_is x d)) (
          let a : i + (1 + prefix_len digit t) ≡ i + 1 + prefix_len digit t = omega arith in
          let z : x - 48 ≡ 0 * 10 + (x - 48) = omega arith in
          ap (λ (v : ℕ). words (in_number i v) (i + 1) t) z ∙ rw (a, one) (number_taken t i (0 * 10 + (x - 48)) (i + 1)))),
    )

-- a number v as it is kept in r: exactly up to 65,535
abbrev pub Kept : ℕ → ℕ → Type 0
Kept v r = ((v ≡ r) × (v ≤ 65535)) ⊎ ((65535 < v) × (65535 < r))

-- one digit more, where m is what is kept of the sum
pub kept_more :
    (v r d m : ℕ) → d ≤ 9 → (r * 10 + d ≤ 65535 → m ≡ r * 10 + d) → (65535 < r * 10 + d → 65535 < m) → Kept v r → Kept (v * 10 + d) m
kept_more v r d m h exact large (inl k) = at (cases_lt 65535 (r * 10 + d))
  where
    at : (65535 < (r * 10 + d)) ⊎ ((r * 10 + d) ≤ 65535) → Kept (v * 10 + d) m
    at (inl g) = inr (omega arith, large g)
    at (inr g) = inl (omega (arith, exact g), omega arith)
kept_more v r d m h exact large (inr k) = inr (omega arith, large (omega arith))

-- the digits that stand first
abbrev first_digits : List ℕ → List ℕ
first_digits bs = take (prefix_len digit bs) bs

-- what is left after digits whose value is kept in r
pub record PastDigits (bs rest : List ℕ) (r : ℕ) : Type 0 where
  pub many : length rest ≤ length bs
  pub longest : length bs - length rest + prefix_len digit rest ≡ prefix_len digit bs
  pub so_far : ℕ
  pub same : value so_far (first_digits rest) ≡ value 0 (first_digits bs)
  pub kept : Kept so_far r
  pub least : r ≤ 65536

pub digit_taken :
    (bs rest : List ℕ) (r m : ℕ) → PastDigits bs rest r → 0 < length rest → IsDigit (get_or rest 0 0) →
    (r * 10 + (get_or rest 0 0 - 48) ≤ 65535 → m ≡ r * 10 + (get_or rest 0 0 - 48)) → (65535 < r * 10 + (get_or rest 0 0 - 48) → 65535 < m) → m ≤ 65536 →
    PastDigits bs (drop 1 rest) m
digit_taken bs [] r m p h range exact large l = absurd (omega arith)
digit_taken bs (x ∷ t) r m p h range exact large l =
    let n : prefix_len digit (x ∷ t) ≡ suc (prefix_len digit t) = rw (is_digit x range) (omega arith) in
    record {
      many = omega (arith, p.many);
      longest = omega (arith, p.many, p.longest, n);
      so_far = p.so_far * 10 + (x - 48);
      same = ap (λ (z : ℕ). value p.so_far (take z (x ∷ t))) (sym n) ∙ p.same;
      kept = kept_more p.so_far r (x - 48) m (omega (arith, range.0, range.1)) exact large p.kept;
      least = l;
    }

-- the spaces of a line
space_first : (bs : List ℕ) (i : ℕ) → 0 < prefix_len is_space bs → words first_byte i bs ≡ words in_line i bs
unfolding words
space_first [] i h = absurd (omega arith)
space_first (b ∷ t) i h = at (is_space b) refl h
  where
    at : (x : Bool) → is_space b ≡ x → 0 < prefix_len is_space (b ∷ t) → words first_byte i (b ∷ t) ≡ words in_line i (b ∷ t)
    at true e h = let k : b ≡ 32 = eqb-true b 32 e in rw k
    at false e h = absurd (let z = rw e at h in omega (arith, z))

pub line_spaces :
    (p q : Position) (bs : List ℕ) (i : ℕ) → p ≢ LineStart → q ≡ cond (eqb (prefix_len is_space bs) 0) p Within →
    words (mode p) i bs ≡ words (line_mode (is_first q)) (i + prefix_len is_space bs) (drop (prefix_len is_space bs) bs)
line_spaces LineStart q bs i l e = absurd (l refl)
line_spaces FirstByte q bs i l e = at (cases_lt 0 (prefix_len is_space bs))
  where
    at : (0 < prefix_len is_space bs) ⊎ (prefix_len is_space bs ≤ 0) → words first_byte i bs ≡ words (line_mode (is_first q)) (i + prefix_len is_space bs) (drop (prefix_len is_space bs) bs)
    at (inl h) =
        let w : q ≡ Within = e ∙ rw (ne_eqb (prefix_len is_space bs) 0 (λ z. omega arith)) in
        rw w (space_first bs i h ∙ spaces_taken bs i)
    at (inr h) =
        let z : prefix_len is_space bs ≡ 0 = omega arith in
        let w : q ≡ FirstByte = e ∙ rw z in
        rw (w, z, add-zero)
line_spaces Within q bs i l e =
    let w : q ≡ Within = e ∙ both (eqb (prefix_len is_space bs) 0) in
    rw w (spaces_taken bs i)
  where
    both : (x : Bool) → cond x Within Within ≡ Within
    both true = refl
    both false = refl

pub no_space_first : (bs : List ℕ) → NoSpaceFirst (drop (prefix_len is_space bs) bs)
no_space_first [] = tt
no_space_first (b ∷ t) = at (is_space b) refl (no_space_first t)
  where
    at : (x : Bool) → is_space b ≡ x → NoSpaceFirst (drop (prefix_len is_space t) t) → NoSpaceFirst (drop (prefix_len is_space (b ∷ t)) (b ∷ t))
    at true e later = let one : 1 + prefix_len is_space t ≡ suc (prefix_len is_space t) = omega arith in rw e (rw one later)
    at false e later = rw e (eqb-false b 32 e)

pub no_space : (bs : List ℕ) (b : ℕ) → NoSpaceFirst bs → slice_get bs 0 ≡ Some b → kind b ≡ Space → ⊥
no_space [] b n e k = cc
no_space (x ∷ t) b n e k = let q : x ≡ b = cc in n (q ∙ of_kind b Space k)

-- what is ahead of a scanner in a line, past n spaces
pub ahead_in_line :
    (bs rest : List ℕ) (at n : ℕ) (p q : Position) → rest ≡ drop at bs → n ≡ prefix_len is_space rest → p ≢ LineStart → q ≡ cond (eqb n 0) p Within →
    words (mode p) at (drop at bs) ≡ words (line_mode (is_first q)) (at + n) (take (length rest - n) (drop n rest))
ahead_in_line bs rest at n p q r k l a =
    ap (words (mode p) at) (sym r) ∙ line_spaces p q rest at l (subst (λ (m : ℕ). q ≡ cond (eqb m 0) p Within) k a) ∙
    ap (λ (m : ℕ). words (line_mode (is_first q)) (at + m) (drop m rest)) (sym k) ∙ ap (words (line_mode (is_first q)) (at + n)) (sym (take_rest rest n))

pub after_word : (bs rest : List ℕ) (at n k : ℕ) → rest ≡ drop at bs → drop k (take (length rest - n) (drop n rest)) ≡ drop (at + n + k) bs
after_word bs rest at n k r = ap (drop k) (take_rest rest n ∙ ap (drop n) r ∙ drop-drop n at bs) ∙ drop-drop k (at + n) bs

-- what stands first, at an equal place
pub at_place : (p n : ℕ) (w : Word) (ws rest : List Placed) → n ≡ p → ws ≡ (n, w) ∷ rest → ws ≡ (p, w) ∷ rest
at_place p n w ws rest e h = h ∙ ap (λ i. (i, w) ∷ rest) e
