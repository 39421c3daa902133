-- The grammar of rule files reads every file, as its words, and in one way.
use Rattle.std.proofs.Common.{◌≡◌, ℕ, suc, ◌+◌, ◌-◌, ◌*◌, ◌≢◌, ◌⊎◌, List, [], ◌∷◌, ◌++◌, length, sym, refl, ap, ◌∙◌, subst, inl, inr, append_assoc, append-nil, zero-add, arith, length-append}
use Rattle.std.specs.List.{All}
use Rattle.std.proofs.lemmas.List.Elements.{All-head, All-tail, All-cons, All-nil, All-push}
use Rattle.std.proofs.lemmas.Bool.{cases_eq, ne_eqb}
use Rattle.scan.specs.declared.ByteKind.{ByteKind}
use Rattle.scan.specs.declared.ByteKind.TheVariants.{Digit, Space, Feed, Open, Close, Comma, Header, Comment, Other}
use Rattle.scan.specs.Words.{Word, line, header, stray, number, opening, closing, comma, feed, unknown, end, cut, Placed}
use Rattle.scan.specs.Bytes.{kind, line_start, first_byte, in_line, in_comment, in_number, words, gives, goes}
use Rattle.scan.specs.Text.{First, IsDigit, NoDigit, InOneLine, value, Mark, an_opening, a_closing, a_comma, a_stray, an_unknown, Spells, nothing, space, mark, digits, SpellsLine, headed, unheaded, ReadsFrom, file_end, comment, cut_comment, whole_line, cut_line, Reads, EveryFileReads, FilesReadOnce}
use Rattle.scan.proofs.OfKind.{is_digit, no_digit, digit_kind, Kinded, kinded}

-- What is spelled is the words of the bytes.

-- what a byte of a kind gives in a line, with what is after it
abbrev step : ByteKind → ℕ → ℕ → Word → List ℕ → List Placed
step k i b w bs = gives k i w ++ words (goes k i b) (i + 1) bs

mark_in : {b : ℕ} {w : Word} (i : ℕ) (bs : List ℕ) → Mark b w → words in_line i (b ∷ bs) ≡ (i, w) ∷ words in_line (i + 1) bs
unfolding words
mark_in i bs an_opening = refl
mark_in i bs a_closing = refl
mark_in i bs a_comma = refl
mark_in i bs a_stray = refl
mark_in i bs (an_unknown b d other) = at (kind b) (kinded b)
  where
    at : (k : ByteKind) → Kinded b k → step k i b stray bs ≡ (i, unknown) ∷ words in_line (i + 1) bs
    at Digit x = absurd (d x)
    at Space x = absurd (other 1 0 (omega arith) x)
    at Feed x = absurd (other 0 0 (omega arith) x)
    at Open x = absurd (other 4 0 (omega arith) x)
    at Close x = absurd (other 5 0 (omega arith) x)
    at Comma x = absurd (other 2 0 (omega arith) x)
    at Header x = absurd (other 3 0 (omega arith) x)
    at Comment x = refl
    at Other x = refl

space_in : (i : ℕ) (bs : List ℕ) → words in_line i (32 ∷ bs) ≡ words in_line (i + 1) bs
unfolding words
space_in i bs = refl

number_in : (i d : ℕ) (bs : List ℕ) → IsDigit d → words in_line i (d ∷ bs) ≡ words (in_number i (0 * 10 + (d - 48))) (i + 1) bs
unfolding words
number_in i d bs x = rw (digit_kind d x) (ap (λ (z : ℕ). words (in_number i z) (i + 1) bs) (sym (zero-add (d - 48))))

number_run : (ds bs : List ℕ) (p v i : ℕ) → All IsDigit ds → words (in_number p v) i (ds ++ bs) ≡ words (in_number p (value v ds)) (i + length ds) bs
unfolding words
number_run [] bs p v i a = let q : i + 0 ≡ i = omega arith in rw q
number_run (d ∷ ds) bs p v i a =
    let q : i + suc (length ds) ≡ i + 1 + length ds = omega arith in rw (q, is_digit d (All-head IsDigit d ds a)) (number_run ds bs p (v * 10 + (d - 48)) (i + 1) (All-tail IsDigit d ds a))

number_out : (bs : List ℕ) (p v i : ℕ) → First NoDigit bs → words (in_number p v) i bs ≡ (p, number v) ∷ words in_line i bs
unfolding words
number_out [] p v i n = refl
number_out (b ∷ bs) p v i n = rw (no_digit b n)

first_append : (P : ℕ → Type 0) (t bs : List ℕ) → First P t → First P bs → First P (t ++ bs)
first_append P [] bs f g = g
first_append P (b ∷ t) bs f g = f

in_line_at : {i j : ℕ} (bs : List ℕ) → i ≡ j → words in_line i bs ≡ words in_line j bs
in_line_at bs e = ap (λ (z : ℕ). words in_line z bs) e

spelled_are_words :
    {i : ℕ} {t : List ℕ} {ws : List Placed} → Spells i t ws → (bs : List ℕ) → First NoDigit bs → words in_line i (t ++ bs) ≡ ws ++ words in_line (i + length t) bs
spelled_are_words (nothing i) bs n = in_line_at bs (omega arith)
spelled_are_words (space i t ws s) bs n =
    space_in i (t ++ bs) ∙ spelled_are_words s bs n ∙ ap (λ (z : List Placed). ws ++ z) (in_line_at bs (omega arith))
spelled_are_words (mark i b w t ws m s) bs n =
    mark_in i (t ++ bs) m ∙ ap (λ (z : List Placed). (i, w) ∷ z) (spelled_are_words s bs n ∙ ap (λ (z : List Placed). ws ++ z) (in_line_at bs (omega arith)))
spelled_are_words (digits i d ds t ws a f s) bs n =
    let v : ℕ = value 0 (d ∷ ds) in
    number_in i d ((ds ++ t) ++ bs) (All-head IsDigit d ds a) ∙ ap (words (in_number i (0 * 10 + (d - 48))) (i + 1)) (append_assoc ds t bs) ∙
    number_run ds (t ++ bs) i (0 * 10 + (d - 48)) (i + 1) (All-tail IsDigit d ds a) ∙ number_out (t ++ bs) i v (i + 1 + length ds) (first_append NoDigit t bs f n) ∙
    ap (λ (z : List Placed). (i, number v) ∷ z)
    (in_line_at (t ++ bs) (omega arith) ∙ spelled_are_words s bs n ∙ ap (λ (z : List Placed). ws ++ z) (in_line_at bs (omega (arith, length-append ds t))))

no_header : (bs : List ℕ) (i : ℕ) → First (λ b. b ≢ 112) bs → words first_byte i bs ≡ words in_line i bs
unfolding words
no_header [] i n = refl
no_header (b ∷ bs) i n = at (kind b) (kinded b)
  where
    at : (k : ByteKind) → Kinded b k → step k i b header bs ≡ step k i b stray bs
    at Digit x = refl
    at Space x = refl
    at Feed x = refl
    at Open x = refl
    at Close x = refl
    at Comma x = refl
    at Header x = absurd (n x)
    at Comment x = refl
    at Other x = refl

header_in : (i : ℕ) (bs : List ℕ) → words first_byte i (112 ∷ bs) ≡ (i, header) ∷ words in_line (i + 1) bs
unfolding words
header_in i bs = refl

line_is_words :
    {i : ℕ} {t : List ℕ} {ws : List Placed} → SpellsLine i t ws → (bs : List ℕ) → First NoDigit bs → First (λ b. b ≢ 112) bs →
    words first_byte i (t ++ bs) ≡ ws ++ words in_line (i + length t) bs
line_is_words (headed i t ws s) bs n h =
    header_in i (t ++ bs) ∙ ap (λ (z : List Placed). (i, header) ∷ z) (spelled_are_words s bs n ∙ ap (λ (z : List Placed). ws ++ z) (in_line_at bs (omega arith)))
line_is_words (unheaded i t ws p c s) bs n h = no_header (t ++ bs) i (first_append (λ b. b ≢ 112) t bs p h) ∙ spelled_are_words s bs n

no_comment : {i : ℕ} {t : List ℕ} {ws : List Placed} → SpellsLine i t ws → First (λ b. b ≢ 99) t
no_comment (headed i t ws s) = λ e. omega arith
no_comment (unheaded i t ws p c s) = c

line_in : (b i : ℕ) (bs : List ℕ) → b ≢ 99 → words line_start i (b ∷ bs) ≡ (i, line) ∷ words first_byte i (b ∷ bs)
unfolding words
line_in b i bs n = rw (ne_eqb b 99 n)

whole_in : (t bs : List ℕ) (i : ℕ) → First (λ b. b ≢ 99) t → words line_start i (t ++ (10 ∷ bs)) ≡ (i, line) ∷ words first_byte i (t ++ (10 ∷ bs))
whole_in [] bs i n = line_in 10 i bs (λ e. omega arith)
whole_in (b ∷ t) bs i n = line_in b i (t ++ (10 ∷ bs)) n

feed_in : (i : ℕ) (bs : List ℕ) → words in_line i (10 ∷ bs) ≡ (i, feed) ∷ words line_start (i + 1) bs
unfolding words
feed_in i bs = refl

cut_in : (i : ℕ) → words in_line i [] ≡ (i, cut) ∷ []
unfolding words
cut_in i = refl

end_in : (i : ℕ) → words line_start i [] ≡ (i, end) ∷ []
unfolding words
end_in i = refl

comment_in : (i : ℕ) (bs : List ℕ) → words line_start i (99 ∷ bs) ≡ words in_comment (i + 1) bs
unfolding words
comment_in i bs = refl

-- a byte within one line
abbrev NoFeed : ℕ → Type 0
NoFeed b = b ≢ 10

comment_run : (t bs : List ℕ) (i : ℕ) → InOneLine t → words in_comment i (t ++ bs) ≡ words in_comment (i + length t) bs
unfolding words
comment_run [] bs i o = let q : i + 0 ≡ i = omega arith in rw q
comment_run (b ∷ t) bs i o = let q : i + suc (length t) ≡ i + 1 + length t = omega arith in rw (q, ne_eqb b 10 (All-head NoFeed b t o)) (comment_run t bs (i + 1) (All-tail NoFeed b t o))

comment_out : (i : ℕ) (bs : List ℕ) → words in_comment i (10 ∷ bs) ≡ words line_start (i + 1) bs
unfolding words
comment_out i bs = refl

comment_cut : (i : ℕ) → words in_comment i [] ≡ (i, cut) ∷ []
unfolding words
comment_cut i = refl

read_are_words : {i : ℕ} {bs : List ℕ} {ws : List Placed} → ReadsFrom i bs ws → words line_start i bs ≡ ws
read_are_words (file_end i) = end_in i
read_are_words (comment i t bs ws o r) =
    comment_in i (t ++ (10 ∷ bs)) ∙ comment_run t (10 ∷ bs) (i + 1) o ∙ comment_out (i + 1 + length t) bs ∙
    ap (λ (z : ℕ). words line_start z bs) (let q : i + 1 + length t + 1 ≡ i + suc (length t) + 1 = omega arith in q) ∙ read_are_words r
read_are_words (cut_comment i t o) =
    comment_in i t ∙ ap (words in_comment (i + 1)) (sym (append-nil t)) ∙ comment_run t [] (i + 1) o ∙ comment_cut (i + 1 + length t) ∙
    ap (λ (z : ℕ). (z, cut) ∷ []) (let q : i + 1 + length t ≡ i + suc (length t) = omega arith in q)
read_are_words (whole_line i t bs us ws o s r) =
    whole_in t bs i (no_comment s) ∙
    ap (λ (z : List Placed). (i, line) ∷ z)
    (line_is_words s (10 ∷ bs) (λ d. omega (arith, d.0)) (λ e. omega arith) ∙
    ap (λ (z : List Placed). us ++ z) (feed_in (i + length t) bs ∙ ap (λ (z : List Placed). (i + length t, feed) ∷ z) (read_are_words r)))
read_are_words (cut_line i b t us o s) =
    line_in b i t (no_comment s) ∙
    ap (λ (z : List Placed). (i, line) ∷ z)
    (ap (words first_byte i) (sym (append-nil (b ∷ t))) ∙ line_is_words s [] tt tt ∙ ap (λ (z : List Placed). us ++ z) (cut_in (i + length (b ∷ t))))

-- Everything is spelled, and read, in some way.

abbrev SomeSpelling : ℕ → List ℕ → Type 0
SomeSpelling i t = (ws : List Placed) × Spells i t ws

-- by themselves and after digits
abbrev Spelled : ℕ → List ℕ → Type 0
Spelled i t =
    SomeSpelling i t × ((p d : ℕ) (ds : List ℕ) → All IsDigit (d ∷ ds) → i ≡ p + length (d ∷ ds) → SomeSpelling p (d ∷ (ds ++ t)))

after_digits : (i b : ℕ) (t : List ℕ) → NoDigit b → SomeSpelling i (b ∷ t) → Spelled i (b ∷ t)
after_digits i b t n s = (s, λ p d ds a e. (_, digits p d ds (b ∷ t) s.0 a n (subst (λ (z : ℕ). Spells z (b ∷ t) s.0) e s.1)))

marked : (i b : ℕ) (w : Word) (t : List ℕ) → NoDigit b → Mark b w → Spelled (i + 1) t → Spelled i (b ∷ t)
marked i b w t n m s = after_digits i b t n (_, mark i b w t s.0.0 m s.0.1)

other_marks : (b : ℕ) → b ≢ 10 → b ≢ 32 → b ≢ 44 → b ≢ 112 → b ≢ 123 → b ≢ 125 → NoDigit b → Mark b unknown
other_marks b feed' space' comma' header' open' close' n =
    let P : ℕ → Type 0 = λ c. b ≢ c in
    an_unknown b n
    (All-cons P 10 (32 ∷ 44 ∷ 112 ∷ 123 ∷ 125 ∷ []) feed' (All-cons P 32 (44 ∷ 112 ∷ 123 ∷ 125 ∷ []) space' (
    All-cons P 44 (112 ∷ 123 ∷ 125 ∷ []) comma' (All-cons P 112 (123 ∷ 125 ∷ []) header' (All-cons P 123 (125 ∷ []) open' (
    All-cons P 125 [] close' (All-nil P)))))))

one_more : (k : ByteKind) (i b : ℕ) (t : List ℕ) → Kinded b k → b ≢ 10 → Spelled (i + 1) t → Spelled i (b ∷ t)
one_more Digit i b t x o s = (
  s.1 i b [] (All-cons IsDigit b [] x (All-nil IsDigit)) refl,
  λ p d ds a e.
      let l : i + 1 ≡ p + length (d ∷ (ds ++ (b ∷ []))) = omega (arith, length-append ds (b ∷ [])) in
      subst (λ (z : List ℕ). SomeSpelling p (d ∷ z)) (append_assoc ds (b ∷ []) t) (s.1 p d (ds ++ (b ∷ [])) (All-push IsDigit (d ∷ ds) b a x) l),
)
one_more Space i b t x o s =
    after_digits i b t (λ d. omega (arith, d.0)) (subst (λ (z : ℕ). SomeSpelling i (z ∷ t)) (sym x) (_, space i t s.0.0 s.0.1))
one_more Feed i b t x o s = absurd (o x)
one_more Open i b t x o s = marked i b opening t (λ d. omega (arith, d.1)) (subst (λ (z : ℕ). Mark z opening) (sym x) an_opening) s
one_more Close i b t x o s = marked i b closing t (λ d. omega (arith, d.1)) (subst (λ (z : ℕ). Mark z closing) (sym x) a_closing) s
one_more Comma i b t x o s = marked i b comma t (λ d. omega (arith, d.0)) (subst (λ (z : ℕ). Mark z comma) (sym x) a_comma) s
one_more Header i b t x o s = marked i b stray t (λ d. omega (arith, d.1)) (subst (λ (z : ℕ). Mark z stray) (sym x) a_stray) s
one_more Comment i b t x o s =
    let n : NoDigit b = λ d. omega (arith, d.1) in
    marked i b unknown t n (other_marks b o (λ e. omega arith) (λ e. omega arith) (λ e. omega arith) (λ e. omega arith) (λ e. omega arith) n) s
one_more Other i b t (n, a) o s =
    marked i b unknown t n
    (other_marks b (a 0 0 (omega arith)) (a 1 0 (omega arith)) (a 2 0 (omega arith)) (a 4 0 (omega arith)) (a 5 0 (omega arith)) (a 6 0 (omega arith)) n) s

spelled : (t : List ℕ) (i : ℕ) → InOneLine t → Spelled i t
spelled [] i o = (([], nothing i), λ p d ds a e. (_, digits p d ds [] [] a tt (nothing (p + length (d ∷ ds)))))
spelled (b ∷ t) i o = one_more (kind b) i b t (kinded b) (All-head NoFeed b t o) (spelled t (i + 1) (All-tail NoFeed b t o))

line_spelled : (t : List ℕ) (i : ℕ) → InOneLine t → First (λ b. b ≢ 99) t → (ws : List Placed) × SpellsLine i t ws
line_spelled [] i o n = ([], unheaded i [] [] tt tt (nothing i))
line_spelled (b ∷ t) i o n = at (cases_eq b 112)
  where
    at : (b ≡ 112) ⊎ (b ≡ 112 → ⊥) → (ws : List Placed) × SpellsLine i (b ∷ t) ws
    at (inl e) =
        let s = (spelled t (i + 1) (All-tail NoFeed b t o)).0 in
        subst (λ (z : ℕ). (ws : List Placed) × SpellsLine i (z ∷ t) ws) (sym e) (_, headed i t s.0 s.1)
    at (inr h) = let s = (spelled (b ∷ t) i o).0 in (s.0, unheaded i (b ∷ t) s.0 h n s.1)

abbrev SomeReading : ℕ → List ℕ → Type 0
SomeReading i bs = (ws : List Placed) × ReadsFrom i bs ws

-- from the start of a line, in a comment, and in another line
abbrev Read : List ℕ → Type 0
Read bs =
    ((i : ℕ) → SomeReading i bs) × ((i : ℕ) (t : List ℕ) → InOneLine t → SomeReading i (99 ∷ (t ++ bs))) ×
    ((i b : ℕ) (t : List ℕ) → InOneLine (b ∷ t) → b ≢ 99 → SomeReading i (b ∷ (t ++ bs)))

whole_read : (t bs : List ℕ) (i : ℕ) → InOneLine t → First (λ b. b ≢ 99) t → Read bs → SomeReading i (t ++ (10 ∷ bs))
whole_read t bs i o n r =
    let s = line_spelled t i o n in
    let q = r.0 (i + length t + 1) in
    (_, whole_line i t bs s.0 q.0 o s.1 q.1)

feed_more : (bs : List ℕ) → Read bs → Read (10 ∷ bs)
feed_more bs r = (
  (λ i. whole_read [] bs i (All-nil NoFeed) tt r),
  (λ i t o. let q = r.0 (i + length (99 ∷ t) + 1) in (q.0, comment i t bs q.0 o q.1)),
  (λ i b t o n. whole_read (b ∷ t) bs i o n r),
)

byte_more : (c : ℕ) (bs : List ℕ) → c ≢ 10 → Read bs → Read (c ∷ bs)
byte_more c bs n r = (
  (λ i. at (cases_eq c 99) i),
  (λ i t o. subst (λ (z : List ℕ). SomeReading i (99 ∷ z)) (append_assoc t (c ∷ []) bs) (r.1 i (t ++ (c ∷ [])) (All-push NoFeed t c o n))),
  (λ i b t o m. subst (λ (z : List ℕ). SomeReading i (b ∷ z)) (append_assoc t (c ∷ []) bs) (r.2 i b (t ++ (c ∷ [])) (All-push NoFeed (b ∷ t) c o n) m)),
)
  where
    at : (c ≡ 99) ⊎ (c ≡ 99 → ⊥) → (i : ℕ) → SomeReading i (c ∷ bs)
    at (inl e) i = subst (λ (z : ℕ). SomeReading i (z ∷ bs)) (sym e) (r.1 i [] (All-nil NoFeed))
    at (inr m) i = r.2 i c [] (All-cons NoFeed c [] n (All-nil NoFeed)) m

read : (bs : List ℕ) → Read bs
read [] = (
  (λ i. (_, file_end i)),
  (λ i t o. subst (λ (z : List ℕ). SomeReading i (99 ∷ z)) (sym (append-nil t)) (_, cut_comment i t o)),
  (λ i b t o n.
      let s = line_spelled (b ∷ t) i o n in
      subst (λ (z : List ℕ). SomeReading i (b ∷ z)) (sym (append-nil t)) (_, cut_line i b t s.0 o s.1)),
)
read (c ∷ bs) = at (cases_eq c 10) (read bs)
  where
    at : (c ≡ 10) ⊎ (c ≡ 10 → ⊥) → Read bs → Read (c ∷ bs)
    at (inl e) r = subst (λ (z : ℕ). Read (z ∷ bs)) (sym e) (feed_more bs r)
    at (inr n) r = byte_more c bs n r

pub every_file_reads : EveryFileReads
every_file_reads bs = let r = (read bs).0 0 in subst (Reads bs) (sym (read_are_words r.1)) r.1

pub files_read_once : FilesReadOnce
files_read_once bs ws vs r s = sym (read_are_words r) ∙ read_are_words s
