-- How the places of a file's words rise.
use Rattle.std.proofs.Common.{◌≡◌, ℕ, ◌+◌, ◌-◌, ◌*◌, ◌<◌, ◌≤◌, Bool, true, false, cond, eqb, List, [], ◌∷◌, ◌++◌, refl, arith}
use Rattle.scan.specs.declared.ByteKind.{ByteKind}
use Rattle.scan.specs.declared.ByteKind.TheVariants.{Digit, Space, Feed, Open, Close, Comma, Header, Comment, Other}
use Rattle.scan.specs.Bytes.{digit, kind, Mode, line_start, first_byte, in_line, in_comment, in_number, gives, goes, words, file_words}
use Rattle.scan.specs.Words.{Word, line, header, stray, number, opening, closing, comma, feed, unknown, end, cut, Placed}
use Rattle.rule_file.proofs.Clash.{clash}

abbrev pub is_line : Word → Bool
is_line line = true
is_line header = false
is_line stray = false
is_line (number v) = false
is_line opening = false
is_line closing = false
is_line comma = false
is_line feed = false
is_line unknown = false
is_line end = false
is_line cut = false

abbrev pub is_feed : Word → Bool
is_feed line = false
is_feed header = false
is_feed stray = false
is_feed (number v) = false
is_feed opening = false
is_feed closing = false
is_feed comma = false
is_feed feed = true
is_feed unknown = false
is_feed end = false
is_feed cut = false

-- Places rise from word to word, but for a line's start and its first word, from lo on. A line starts first in the file or
-- after a line feed, which f says of the word before.
abbrev pub Laid : Bool → ℕ → List Placed → Type 0
Laid f lo [] = Unit {0}
Laid f lo (x ∷ ws) = (lo ≤ x.0) × (x.1 ≡ line → f ≡ true) × Laid (is_feed x.1) (cond (is_line x.1) x.0 (x.0 + 1)) ws

-- what holds of f and lo before a byte at i, by what it stands in
abbrev Ready : Mode → ℕ → Bool → ℕ → Type 0
Ready line_start i f lo = (f ≡ true) × (lo ≤ i)
Ready first_byte i f lo = lo ≤ i
Ready in_line i f lo = lo ≤ i
Ready in_comment i f lo = (f ≡ true) × (lo ≤ i)
Ready (in_number p v) i f lo = (lo ≤ p) × (p < i)

abbrev Lays : ℕ → List ℕ → Type 0
Lays i bs = (m : Mode) (f : Bool) (lo : ℕ) → Ready m i f lo → Laid f lo (words m i bs)

next_place : (b : Bool) (i : ℕ) → cond b i (i + 1) ≤ i + 1
next_place true i = omega arith
next_place false i = omega arith

gives_laid : (k : ByteKind) (i b lo : ℕ) (f : Bool) (w : Word) (bs : List ℕ) → Lays (i + 1) bs → lo ≤ i → (w ≡ line → ⊥) → Laid f lo (gives k i w ++ words (goes k i b) (i + 1) bs)
gives_laid Digit i b lo f w bs ih l n = ih (in_number i (b - 48)) f lo (l, omega arith)
gives_laid Space i b lo f w bs ih l n = ih in_line f lo (omega arith)
gives_laid Feed i b lo f w bs ih l n = (l, (λ e. clash (cc)), ih line_start true (i + 1) (refl, omega arith))
gives_laid Open i b lo f w bs ih l n = (l, (λ e. clash (cc)), ih in_line false (i + 1) (omega arith))
gives_laid Close i b lo f w bs ih l n = (l, (λ e. clash (cc)), ih in_line false (i + 1) (omega arith))
gives_laid Comma i b lo f w bs ih l n = (l, (λ e. clash (cc)), ih in_line false (i + 1) (omega arith))
gives_laid Header i b lo f w bs ih l n = (l, (λ e. absurd (n e)), ih in_line (is_feed w) _ (next_place (is_line w) i))
gives_laid Comment i b lo f w bs ih l n = (l, (λ e. clash (cc)), ih in_line false (i + 1) (omega arith))
gives_laid Other i b lo f w bs ih l n = (l, (λ e. clash (cc)), ih in_line false (i + 1) (omega arith))

start_laid : (c : Bool) (k : ByteKind) (i b lo : ℕ) (f : Bool) (bs : List ℕ) → Lays (i + 1) bs → f ≡ true → lo ≤ i → Laid f lo (cond c [] ((i, line) ∷ gives k i header) ++ words (cond c in_comment (goes k i b)) (i + 1) bs)
start_laid true k i b lo f bs ih e l = ih in_comment f lo (e, omega arith)
start_laid false k i b lo f bs ih e l = (l, (λ q. e), gives_laid k i b i false header bs ih (omega arith) (λ q. clash (cc)))

number_laid : (c : Bool) (k : ByteKind) (p v i b lo : ℕ) (f : Bool) (bs : List ℕ) → Lays (i + 1) bs → lo ≤ p → p < i → Laid f lo (cond c [] ((p, number v) ∷ gives k i stray) ++ words (cond c (in_number p (v * 10 + (b - 48))) (goes k i b)) (i + 1) bs)
number_laid true k p v i b lo f bs ih l g = ih (in_number p (v * 10 + (b - 48))) f lo (l, omega arith)
number_laid false k p v i b lo f bs ih l g = (l, (λ e. clash (cc)), gives_laid k i b (p + 1) false stray bs ih (omega arith) (λ q. clash (cc)))

comment_laid : (c : Bool) (i lo : ℕ) (f : Bool) (bs : List ℕ) → Lays (i + 1) bs → f ≡ true → lo ≤ i → Laid f lo (words (cond c line_start in_comment) (i + 1) bs)
comment_laid true i lo f bs ih e l = ih line_start f lo (e, omega arith)
comment_laid false i lo f bs ih e l = ih in_comment f lo (e, omega arith)

lays : (bs : List ℕ) (i : ℕ) → Lays i bs
unfolding words
lays [] i line_start f lo r = (r.1, (λ e. clash (cc)), tt)
lays [] i first_byte f lo r = (r, (λ e. clash (cc)), tt)
lays [] i in_line f lo r = (r, (λ e. clash (cc)), tt)
lays [] i in_comment f lo r = (r.1, (λ e. clash (cc)), tt)
lays [] i (in_number p v) f lo r = (r.0, (λ e. clash (cc)), (omega (arith, r.1), (λ e. clash (cc)), tt))
lays (b ∷ bs) i line_start f lo r = start_laid (eqb b 99) (kind b) i b lo f bs (lays bs (i + 1)) r.0 r.1
lays (b ∷ bs) i first_byte f lo r = gives_laid (kind b) i b lo f header bs (lays bs (i + 1)) r (λ q. clash (cc))
lays (b ∷ bs) i in_line f lo r = gives_laid (kind b) i b lo f stray bs (lays bs (i + 1)) r (λ q. clash (cc))
lays (b ∷ bs) i in_comment f lo r = comment_laid (eqb b 10) i lo f bs (lays bs (i + 1)) r.0 r.1
lays (b ∷ bs) i (in_number p v) f lo r = number_laid (digit b) (kind b) p v i b lo f bs (lays bs (i + 1)) r.0 r.1

pub file_laid : (bs : List ℕ) → Laid true 0 (file_words bs)
file_laid bs = lays bs 0 line_start true 0 (refl, omega arith)
