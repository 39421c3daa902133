-- What a reader of rows answers, by the rows that are ahead of it.
use Rattle.std.specs.Prelude.{◌≡◌, ℕ, ◌+◌, ◌<◌, List, [], ◌∷◌, length, Some, None, Option, Result}
use Rattle.std.specs.Borrow.{Bor}
use Rattle.box_book.specs.declared.NameBox.{NameBox}
use Rattle.box_text.specs.declared.CellCause.{CellCause}
use Rattle.box_text.specs.declared.reader.RowReader.{RowReader}
use Rattle.box_text.specs.Rows.{row_of}
use Rattle.box_text.specs.Text.{rows_of}

-- the rows that are ahead of a reader
abbrev pub ahead : RowReader → List (List ℕ)
ahead s = rows_of s.rest.now

-- a measure that falls with each row, so that a loop over the rows ends
abbrev pub left : RowReader → ℕ
left s = length s.rest.now

-- a reader, from one state to another, goes over the first row ahead
abbrev pub GoesOver : List ℕ → RowReader → RowReader → Type 0
GoesOver row s s' = (ahead s ≡ row ∷ ahead s') × (s'.number ≡ s.number + 1) × (left s' < left s)

-- no row is ahead, before and after
abbrev pub AtEnd : RowReader → RowReader → Type 0
AtEnd s s' = (ahead s ≡ []) × (ahead s' ≡ []) × (s'.number ≡ s.number)

-- What the reader answers: what the first row ahead reads as, or nothing if no row is ahead.
abbrev pub Answers : RowReader → RowReader → Option (Result NameBox CellCause) → Type 0
Answers s s' None = AtEnd s s'
Answers s s' (Some a) = (row : List ℕ) × (a ≡ row_of row) × GoesOver row s s'

-- For the private functions: the first row ahead itself.
abbrev pub Takes : RowReader → RowReader → Option (Bor (List ℕ)) → Type 0
Takes s s' None = AtEnd s s'
Takes s s' (Some row) = GoesOver row.now s s'
