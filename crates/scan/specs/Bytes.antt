-- What bytes are, and the words that they give, one byte after another.
use Rattle.std.specs.Prelude.{ℕ, ◌+◌, ◌-◌, ◌*◌, Bool, cond, ◌&&◌, List, [], ◌∷◌, ◌++◌, ◌==◌, nat_le}
use Rattle.scan.specs.declared.ByteKind.{ByteKind}
use Rattle.scan.specs.declared.ByteKind.TheVariants.{Digit, Space, Feed, Open, Close, Comma, Header, Comment, Other}
use Rattle.scan.specs.Words.{Word, line, header, stray, number, opening, closing, comma, feed, unknown, end, cut, Placed}

abbrev pub digit : ℕ → Bool
digit b = nat_le 48 b && nat_le b 57

abbrev pub kind : ℕ → ByteKind
kind b =
    cond (digit b) Digit (
    cond (b == 32) Space (
    cond (b == 10) Feed (
    cond (b == 123) Open (
    cond (b == 125) Close (
    cond (b == 44) Comma (
    cond (b == 112) Header (
    cond (b == 99) Comment Other)))))))

-- what a byte stands in
pub data Mode : Type 0 where
  -- at the start of a line
  line_start : Mode
  -- at the first byte of a line, whose start was given already
  first_byte : Mode
  -- further on in a line
  in_line : Mode
  in_comment : Mode
  -- in a number, from the place of its first digit and the value so far
  in_number : ℕ → ℕ → Mode

-- the words that a byte at a place in a line gives by itself, where a p gives w
abbrev pub gives : ByteKind → ℕ → Word → List Placed
gives Digit i w = []
gives Space i w = []
gives Feed i w = (i, feed) ∷ []
gives Open i w = (i, opening) ∷ []
gives Close i w = (i, closing) ∷ []
gives Comma i w = (i, comma) ∷ []
gives Header i w = (i, w) ∷ []
gives Comment i w = (i, unknown) ∷ []
gives Other i w = (i, unknown) ∷ []

-- the mode after a byte b at a place i in a line
abbrev pub goes : ByteKind → ℕ → ℕ → Mode
goes Digit i b = in_number i (b - 48)
goes Space i b = in_line
goes Feed i b = line_start
goes Open i b = in_line
goes Close i b = in_line
goes Comma i b = in_line
goes Header i b = in_line
goes Comment i b = in_line
goes Other i b = in_line

-- the words that a byte b at a place i gives
abbrev pub emit : Mode → ℕ → ℕ → List Placed
emit line_start i b = cond (b == 99) [] ((i, line) ∷ gives (kind b) i header)
emit first_byte i b = gives (kind b) i header
emit in_line i b = gives (kind b) i stray
emit in_comment i b = []
emit (in_number p v) i b = cond (digit b) [] ((p, number v) ∷ gives (kind b) i stray)

-- the mode after it
abbrev pub after : Mode → ℕ → ℕ → Mode
after line_start i b = cond (b == 99) in_comment (goes (kind b) i b)
after first_byte i b = goes (kind b) i b
after in_line i b = goes (kind b) i b
after in_comment i b = cond (b == 10) line_start in_comment
after (in_number p v) i b = cond (digit b) (in_number p (v * 10 + (b - 48))) (goes (kind b) i b)

-- the words that the end of the file gives
abbrev pub ended : Mode → ℕ → List Placed
ended line_start i = (i, end) ∷ []
ended first_byte i = (i, cut) ∷ []
ended in_line i = (i, cut) ∷ []
ended in_comment i = (i, cut) ∷ []
ended (in_number p v) i = (p, number v) ∷ (i, cut) ∷ []

-- the words of the bytes from a place on
unfoldable pub words : Mode → ℕ → List ℕ → List Placed
words m i [] = ended m i
words m i (b ∷ bs) = emit m i b ++ words (after m i b) (i + 1) bs

-- the words of a file
abbrev pub file_words : List ℕ → List Placed
file_words bs = words line_start 0 bs
