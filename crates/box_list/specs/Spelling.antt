-- The boxes that a text spells.
use Rattle.std.specs.Prelude.{◌≡◌, ℕ, ◌<◌, ◌≤◌, List, [], length, Some, Option, slice_index_or}
use Rattle.box_book.specs.declared.NameBox.{NameBox}
use Rattle.box_book.specs.Causes.{box_at}
use Rattle.box_text.specs.Rows.{cells, number_at}
use Rattle.box_text.specs.Text.{rows_of, past_heading}

-- the rows of a text that are boxes: all but a heading
abbrev pub box_rows : List ℕ → List (List ℕ)
box_rows text = past_heading (rows_of text)

-- the row of the box at a place, counted from 0
abbrev pub row_at : List (List ℕ) → ℕ → List ℕ
row_at rows k = slice_index_or rows k []

-- the number of a cell of a row, if the cell is there and has one; cell 0 is the name
abbrev pub cell : List ℕ → ℕ → Option ℕ
cell row i = number_at i (cells row)

-- the cells after the name are the four edges of the box, and no sixth cell is there
pub record SpellsEdges (row : List ℕ) (b : NameBox) : Type 0 where
  pub left : cell row 1 ≡ Some b.left
  pub top : cell row 2 ≡ Some b.top
  pub right : cell row 3 ≡ Some b.right
  pub bottom : cell row 4 ≡ Some b.bottom
  pub five : length (cells row) ≤ 5

-- a row spells a box: its five cells are the box's numbers
pub record Spells (row : List ℕ) (b : NameBox) : Type 0 where
  pub name : cell row 0 ≡ Some b.name
  pub edges : SpellsEdges row b

-- rows spell boxes: as many, and each row the box at its place, so that no row is skipped
pub record SpellsAll (rows : List (List ℕ)) (bs : List NameBox) : Type 0 where
  pub many : length bs ≡ length rows
  pub each : (k : ℕ) → k < length rows → Spells (row_at rows k) (box_at bs k)
