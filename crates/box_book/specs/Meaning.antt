-- What a box list allows.
use Rattle.std.specs.Prelude.{◌≡◌, ℕ, ◌<◌, Bool, false, ◌&&◌, ◌||◌, List, length, ◌==◌, ◌≢◌, nat_lt, slice_index_or}
use Rattle.book.specs.declared.Mark.{Mark}
use Rattle.book.specs.declared.Mark.TheVariants.{Open, Yes}
use Rattle.book.specs.Books.{Settled}
use Rattle.box_book.specs.declared.NameBox.{NameBox}
use Rattle.box_book.specs.Causes.{box_at}

-- the left of each is below the right of the other, and the top of each below the bottom of the other: boxes that share
-- only an edge or a corner do not overlap
abbrev pub overlaps : NameBox → NameBox → Bool
overlaps a b = (nat_lt a.left b.right && nat_lt b.left a.right) && (nat_lt a.top b.bottom && nat_lt b.top a.bottom)

-- two boxes clash if they have the same name or overlap
abbrev pub clashes : NameBox → NameBox → Bool
clashes a b = a.name == b.name || overlaps a b

-- the mark of the box at a place, counted from 0
abbrev pub mark_at : List Mark → ℕ → Mark
mark_at ms k = slice_index_or ms k Open

-- an arrangement with exactly one yes box for each name that occurs, in which no two yes boxes overlap
pub record Allowed (bs : List NameBox) (a : List Mark) : Type 0 where
  pub sized : length a ≡ length bs
  pub settled : Settled a
  pub seated : (k : ℕ) → k < length bs → (j : ℕ) × (j < length bs) × ((box_at bs j).name ≡ (box_at bs k).name) × (mark_at a j ≡ Yes)
  pub single : (i j : ℕ) → i < length bs → j < length bs → (box_at bs i).name ≡ (box_at bs j).name → mark_at a i ≡ Yes → mark_at a j ≡ Yes → i ≡ j
  pub apart : (i j : ℕ) → i < length bs → j < length bs → (i ≢ j) → mark_at a i ≡ Yes → mark_at a j ≡ Yes → overlaps (box_at bs i) (box_at bs j) ≡ false
