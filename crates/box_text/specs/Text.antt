-- The text of a box list as rows. Codes: 10 line feed, 13 carriage return.
use Rattle.std.specs.Prelude.{ℕ, Bool, false, cond, not, ◌&&◌, List, [], ◌∷◌, length, ◌==◌}
use Rattle.std.specs.List.{list_any}
use Rattle.box_text.specs.Cells.{digit}
use Rattle.box_text.specs.Rows.{onto}

abbrev pub feed_next : List ℕ → Bool
feed_next [] = false
feed_next (b ∷ bs) = b == 10

-- The rows of a text: each ends with a line feed, or a carriage return and a line feed, which are no part of it. The
-- end of the last row may be missing; a carriage return alone is no end. After a row's end there is a further row only
-- if a byte stands there. A row may have any length.
abbrev pub rows_of : List ℕ → List (List ℕ)
rows_of [] = []
rows_of (b ∷ bs) =
    cond (b == 10) ([] ∷ rows_of bs) (
    cond (b == 13 && feed_next bs) (rows_of bs) (
    onto b (rows_of bs)))

-- Whether a first row is a heading: it is not empty, and no cell of it holds a digit. So a first row of spaces alone, or
-- of commas alone, is a heading.
abbrev pub heading : List ℕ → Bool
heading bs = not (length bs == 0) && not (list_any digit bs)

-- the rows that are boxes: all but a heading, which only the first row can be
abbrev pub past_heading : List (List ℕ) → List (List ℕ)
past_heading [] = []
past_heading (r ∷ rs) = cond (heading r) rs (r ∷ rs)

-- how many headings there are
abbrev pub headings : List (List ℕ) → ℕ
headings [] = 0
headings (r ∷ rs) = cond (heading r) 1 0
