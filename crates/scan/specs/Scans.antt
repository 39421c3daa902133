-- What the scanner answers, by the words that are ahead of it.
use Rattle.std.specs.Prelude.{◌≡◌, ℕ, ◌+◌, ◌-◌, ◌*◌, ◌<◌, ◌≤◌, ◌≢◌, Bool, true, false, cond, List, [], ◌∷◌, length, drop, Some, None, Ok, Err, Option, Result}
use Rattle.scan.specs.declared.ByteKind.{ByteKind}
use Rattle.scan.specs.declared.ByteKind.TheVariants.{Digit, Space, Feed as KindFeed, Open as KindOpen, Close as KindClose, Comma as KindComma, Header as KindHeader, Comment, Other}
use Rattle.scan.specs.declared.Token.{Token}
use Rattle.scan.specs.declared.Token.TheVariants.{Line, End, Number, Open, Close, Comma, Header, Stray, Feed, Cut}
use Rattle.scan.specs.declared.ScanCause.{ScanCause}
use Rattle.scan.specs.declared.ScanCause.TheVariants.{UnknownByte, NumberTooLarge}
use Rattle.refusal.specs.declared.At.{At}
use Rattle.scan.specs.declared.scanner.Position.{Position}
use Rattle.scan.specs.declared.scanner.Position.TheVariants.{LineStart, FirstByte, Within}
use Rattle.scan.specs.declared.scanner.Scanner.{Scanner}
use Rattle.scan.specs.declared.scanner.reading.Found.{Found}
use Rattle.scan.specs.Words.{Word, line, header, stray, number, opening, closing, comma, feed, unknown, end, cut, Placed}
use Rattle.scan.specs.Bytes.{Mode, line_start, first_byte, in_line, words}
use Rattle.scan.specs.Text.{First}

abbrev pub mode : Position → Mode
mode LineStart = line_start
mode FirstByte = first_byte
mode Within = in_line

-- the words of the bytes that a scanner has not taken yet, in some mode
abbrev pub words_in : Mode → Scanner → List Placed
words_in m s = words m s.at (drop s.at s.bytes.now)

-- the words that are ahead of a scanner
abbrev pub ahead : Scanner → List Placed
ahead s = words_in (mode s.position) s

-- the word of a token
abbrev pub word_of : Token → Word
word_of Line = line
word_of End = end
word_of (Number v) = number v
word_of Open = opening
word_of Close = closing
word_of Comma = comma
word_of Header = header
word_of Stray = stray
word_of Feed = feed
word_of Cut = cut

-- whether a token ends the file
abbrev pub final : Token → Bool
final Line = false
final End = true
final (Number v) = false
final Open = false
final Close = false
final Comma = false
final Header = false
final Stray = false
final Feed = false
final Cut = true

-- a number's token is below 65,536
abbrev pub Small : Token → Type 0
Small Line = Unit {0}
Small End = Unit {0}
Small (Number v) = v ≤ 65535
Small Open = Unit {0}
Small Close = Unit {0}
Small Comma = Unit {0}
Small Header = Unit {0}
Small Stray = Unit {0}
Small Feed = Unit {0}
Small Cut = Unit {0}

-- the words ahead are a token's and then, unless it ends the file, those ahead of the scanner after it
abbrev pub TokenFirst : List Placed → ℕ → Token → Scanner → Type 0
TokenFirst ws i t s = (ws ≡ (i, word_of t) ∷ cond (final t) [] (ahead s)) × Small t

-- the word that is refused for a cause
abbrev pub Refused : ScanCause → Word → Type 0
Refused UnknownByte w = w ≡ unknown
Refused NumberTooLarge w = (v : ℕ) × (65535 < v) × (w ≡ number v)

-- What the scanner, from one state to another, answers: the first word ahead as its token, or a refusal of it. After a
-- refusal nothing is said of what is ahead.
abbrev pub Answers : Scanner → Scanner → Result (ℕ × Token) (At ScanCause) → Type 0
Answers s s' (Ok t) = TokenFirst (ahead s) t.0 t.1 s'
Answers s s' (Err f) = (w : Word) × (ws : List Placed) × (ahead s ≡ (f.place, w) ∷ ws) × Refused f.cause w

-- 1 at the start of a line, since `Line` takes no byte
abbrev pub at_start : Position → ℕ
at_start LineStart = 1
at_start FirstByte = 0
at_start Within = 0

-- a measure that falls with each token but a final one (`Falls`), so that a loop over the tokens ends
abbrev pub left : Scanner → ℕ
left s = 2 * (length s.bytes.now - s.at) + at_start s.position

abbrev pub Falls : Scanner → Scanner → Result (ℕ × Token) (At ScanCause) → Type 0
Falls s s' (Ok t) = final t.1 ≡ false → left s' < left s
Falls s s' (Err f) = Unit {0}

-- For the private functions.

-- the mode in a line, at its first byte or further on
abbrev pub line_mode : Bool → Mode
line_mode true = first_byte
line_mode false = in_line

-- what the line begins with that comes after n bytes of comments, and what it gives then; only `Line` leaves more to read
abbrev pub LineFirst : List ℕ → ℕ × Token → Type 0
LineFirst bs r =
    (r.0 ≤ length bs) × ((i : ℕ) → words line_start i bs ≡ (i + r.0, word_of r.1) ∷ cond (final r.1) [] (words first_byte (i + r.0) (drop r.0 bs))) × Small r.1 ×
    (final r.1 ≡ false → r.1 ≡ Line)

-- the first byte, if there is one, is no space
abbrev pub NoSpaceFirst : List ℕ → Type 0
NoSpaceFirst = First (λ b. b ≢ 32)

-- whether a byte is its line's first, by the position before it
abbrev pub is_first : Position → Bool
is_first LineStart = false
is_first FirstByte = true
is_first Within = false

-- what a token, or a refusal, says of bytes of a line that it is found in, where it takes n of them
abbrev pub WordIs : Bool → List ℕ → Result Token ScanCause → ℕ → Position → Type 0
WordIs first bs (Ok t) n p =
    ((i : ℕ) → words (line_mode first) i bs ≡ (i, word_of t) ∷ cond (final t) [] (words (mode p) (i + n) (drop n bs))) × Small t × (final t ≡ false → 0 < n)
WordIs first bs (Err c) n p = (i : ℕ) → (w : Word) × (ws : List Placed) × (words (line_mode first) i bs ≡ (i, w) ∷ ws) × Refused c w

-- bytes of a line, at any place, begin with a token, or with a word that is refused
abbrev pub WordFirst : Bool → List ℕ → Found → Type 0
WordFirst first bs f = (f.length ≤ length bs) × WordIs first bs f.token f.length f.next

-- the token that a byte by itself is, with the position after it
abbrev pub single_token : ByteKind → Bool → Option (Token × Position)
single_token Digit b = None
single_token Space b = None
single_token KindFeed b = Some (Feed, LineStart)
single_token KindOpen b = Some (Open, Within)
single_token KindClose b = Some (Close, Within)
single_token KindComma b = Some (Comma, Within)
single_token KindHeader true = Some (Header, Within)
single_token KindHeader false = Some (Stray, Within)
single_token Comment b = None
single_token Other b = None
