-- Words: what the bytes of a rule file are read as.
use Rattle.std.specs.Prelude.{ℕ}

-- Spaces and comments give no word. Numbers of any size are words, and so are bytes that mean nothing, so that every
-- file reads as words; the scanner refuses those that have no token.
pub data Word : Type 0 where
  -- the start of a line that is no comment
  line : Word
  -- a p that is its line's first byte
  header : Word
  -- a p elsewhere
  stray : Word
  -- a run of digits, by its value
  number : ℕ → Word
  -- {
  opening : Word
  -- }
  closing : Word
  comma : Word
  -- a line feed that ends a line other than a comment
  feed : Word
  -- any other byte outside comments
  unknown : Word
  -- the end of the file, after the last line feed
  end : Word
  -- the end of the file inside a line, be it a comment
  cut : Word

-- a word with its place: that of its first byte, counted from 0, or for `line` that of the line's first byte, and for
-- `end` and `cut` the file's length
abbrev pub Placed : Type 0
Placed = ℕ × Word
