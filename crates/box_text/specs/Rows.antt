-- A row as its cells, and what it reads as. Code 44 is the comma.
use Rattle.std.specs.Prelude.{ℕ, Bool, cond, List, [], ◌∷◌, length, drop, Some, None, Ok, Err, Option, Result, ◌==◌, nat_le}
use Rattle.std.specs.Borrow.{Bor}
use Rattle.box_book.specs.declared.NameBox.{NameBox}
use Rattle.box_text.specs.declared.CellCause.{CellCause}
use Rattle.box_text.specs.declared.CellCause.TheVariants.{Name, Edge}
use Rattle.box_text.specs.declared.reading.Cells.{Cells}
use Rattle.box_text.specs.Cells.{cell_number}

-- a byte at the start of the first of some pieces
abbrev pub onto : ℕ → List (List ℕ) → List (List ℕ)
onto b [] = (b ∷ []) ∷ []
onto b (p ∷ ps) = (b ∷ p) ∷ ps

-- the cells of a row: it is cut at each comma, so that an empty row has one cell, which is empty
abbrev pub cells : List ℕ → List (List ℕ)
cells [] = [] ∷ []
cells (b ∷ bs) = cond (b == 44) ([] ∷ cells bs) (onto b (cells bs))

abbrev pub first_number : List (List ℕ) → Option ℕ
first_number [] = None
first_number (c ∷ cs) = cell_number c

-- the number of the cell at an index, if there is such a cell and it has a number
abbrev pub number_at : ℕ → List (List ℕ) → Option ℕ
number_at i cs = first_number (drop i cs)

-- the number is there, or the row is refused
abbrev pub given : Option ℕ → CellCause → (ℕ → Result NameBox CellCause) → Result NameBox CellCause
given None e f = Err e
given (Some v) e f = f v

-- What a row reads as by the numbers of its first five cells, and whether there are no more cells. If the first has
-- none, the name is at fault; after that an edge, by a further cell that has none or by a sixth cell.
abbrev pub read_row : Option ℕ → Option ℕ → Option ℕ → Option ℕ → Option ℕ → Bool → Result NameBox CellCause
read_row name left top right bottom all =
    given name Name (λ n.
    given left (Edge n) (λ l.
    given top (Edge n) (λ t.
    given right (Edge n) (λ r.
    given bottom (Edge n) (λ b.
    cond all (Ok (record { name = n; left = l; top = t; right = r; bottom = b })) (Err (Edge n)))))))

abbrev pub row_of_cells : List (List ℕ) → Result NameBox CellCause
row_of_cells cs = read_row (number_at 0 cs) (number_at 1 cs) (number_at 2 cs) (number_at 3 cs) (number_at 4 cs) (nat_le (length cs) 5)

-- what the bytes of a row read as
abbrev pub row_of : List ℕ → Result NameBox CellCause
row_of bs = row_of_cells (cells bs)

-- For the private functions.

-- the cells that are ahead
abbrev pub cells_of : Option (Bor (List ℕ)) → List (List ℕ)
cells_of None = []
cells_of (Some r) = cells r.now

abbrev pub cells_ahead : Cells → List (List ℕ)
cells_ahead s = cells_of s.rest
