-- How a rule file is read, as a grammar. A file is lines, each up to its line feed (`ReadsFrom`); a line that is no
-- comment spells words (`SpellsLine`, and `Spells` past a header's p). Two theorems at the end say that every file is
-- read, and in one way.
--
-- Bytes go by their codes: 10 line feed, 32 space, 44 comma, 48 to 57 digits, 99 c, 112 p, 123 {, 125 }.
-- A place is counted from 0 at the file's first byte.
use Rattle.std.specs.Prelude.{◌≡◌, ℕ, ◌+◌, ◌-◌, ◌*◌, ◌≤◌, ◌≢◌, List, [], ◌∷◌, ◌++◌, length}
use Rattle.std.specs.List.{All}
use Rattle.scan.specs.Words.{Word, line, header, stray, number, opening, closing, comma, feed, unknown, end, cut, Placed}
use Rattle.scan.specs.Bytes.{file_words}

-- `All P bs` says P of each byte, and `First P bs` of the first, if there is one
abbrev pub First : (ℕ → Type 0) → List ℕ → Type 0
First P [] = Unit {0}
First P (b ∷ bs) = P b

abbrev pub IsDigit : ℕ → Type 0
IsDigit b = (48 ≤ b) × (b ≤ 57)

abbrev pub NoDigit : ℕ → Type 0
NoDigit b = IsDigit b → ⊥

-- bytes of one line, without a line feed
abbrev pub InOneLine : List ℕ → Type 0
InOneLine = All (λ b. b ≢ 10)

-- the value of digits that come after others of value v
abbrev pub value : ℕ → List ℕ → ℕ
value v [] = v
value v (d ∷ ds) = value (v * 10 + (d - 48)) ds

-- the bytes that are a word each: {, }, a comma, a p that is not its line's first byte, and those that mean nothing
pub data Mark : ℕ → Word → Type 0 where
  an_opening : Mark 123 opening
  a_closing : Mark 125 closing
  a_comma : Mark 44 comma
  a_stray : Mark 112 stray
  an_unknown : (b : ℕ) → NoDigit b → All (λ c. b ≢ c) (10 ∷ 32 ∷ 44 ∷ 112 ∷ 123 ∷ 125 ∷ []) → Mark b unknown

-- What bytes of one line, which stand from a place i on, spell: they are spaces, numbers and marks. A number takes all
-- the digits that stand together. Here a p is a stray one.
pub data Spells : ℕ → List ℕ → List Placed → Type 0 where
  nothing : (i : ℕ) → Spells i [] []
  space : (i : ℕ) (t : List ℕ) (ws : List Placed) → Spells (i + 1) t ws → Spells i (32 ∷ t) ws
  mark : (i b : ℕ) (w : Word) (t : List ℕ) (ws : List Placed) → Mark b w → Spells (i + 1) t ws → Spells i (b ∷ t) ((i, w) ∷ ws)
  digits :
      (i d : ℕ) (ds t : List ℕ) (ws : List Placed) → All IsDigit (d ∷ ds) → First NoDigit t → Spells (i + length (d ∷ ds)) t ws →
      Spells i (d ∷ (ds ++ t)) ((i, number (value 0 (d ∷ ds))) ∷ ws)

-- What the bytes of a whole line that is no comment spell: a p as its first byte is a header.
pub data SpellsLine : ℕ → List ℕ → List Placed → Type 0 where
  headed : (i : ℕ) (t : List ℕ) (ws : List Placed) → Spells (i + 1) t ws → SpellsLine i (112 ∷ t) ((i, header) ∷ ws)
  unheaded : (i : ℕ) (t : List ℕ) (ws : List Placed) → First (λ b. b ≢ 112) t → First (λ b. b ≢ 99) t → Spells i t ws → SpellsLine i t ws

-- What the bytes of a file from the start of a line on, at a place i, are read as.
pub data ReadsFrom : ℕ → List ℕ → List Placed → Type 0 where
  -- no line is left
  file_end : (i : ℕ) → ReadsFrom i [] ((i, end) ∷ [])
  -- a comment, a line that begins with c, is passed over with its line feed
  comment :
      (i : ℕ) (t bs : List ℕ) (ws : List Placed) → InOneLine t → ReadsFrom (i + length (99 ∷ t) + 1) bs ws →
      ReadsFrom i (99 ∷ (t ++ (10 ∷ bs))) ws
  -- the file ends inside a comment
  cut_comment : (i : ℕ) (t : List ℕ) → InOneLine t → ReadsFrom i (99 ∷ t) ((i + length (99 ∷ t), cut) ∷ [])
  -- any other line gives its start, what it spells, and its line feed
  whole_line :
      (i : ℕ) (t bs : List ℕ) (us ws : List Placed) → InOneLine t → SpellsLine i t us → ReadsFrom (i + length t + 1) bs ws →
      ReadsFrom i (t ++ (10 ∷ bs)) ((i, line) ∷ (us ++ ((i + length t, feed) ∷ ws)))
  -- the file ends inside such a line
  cut_line :
      (i b : ℕ) (t : List ℕ) (us : List Placed) → InOneLine (b ∷ t) → SpellsLine i (b ∷ t) us →
      ReadsFrom i (b ∷ t) ((i, line) ∷ (us ++ ((i + length (b ∷ t), cut) ∷ [])))

-- the words that a file is read as
abbrev pub Reads : List ℕ → List Placed → Type 0
Reads bs ws = ReadsFrom 0 bs ws

-- Theorem: every file is read, namely as its `file_words`.
abbrev pub EveryFileReads : Type 0
EveryFileReads = (bs : List ℕ) → Reads bs (file_words bs)

-- Theorem: no file is read in two ways.
abbrev pub FilesReadOnce : Type 0
FilesReadOnce = (bs : List ℕ) (ws vs : List Placed) → Reads bs ws → Reads bs vs → ws ≡ vs
