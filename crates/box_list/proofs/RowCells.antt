-- What a row reads as, by its cells.
use Rattle.std.proofs.Common.{◌≡◌, ℕ, Bool, true, false, leb, List, length, Some, None, Ok, Err, Option, Result, sym, refl, subst, arith}
use Rattle.std.proofs.lemmas.Bool.{leb-true, le-leb}
use Rattle.box_book.specs.declared.NameBox.{NameBox}
use Rattle.box_text.specs.declared.CellCause.{CellCause}
use Rattle.box_text.specs.declared.CellCause.TheVariants.{Name, Edge}
use Rattle.box_text.specs.Rows.{cells, read_row, row_of}
use Rattle.box_list.specs.Spelling.{cell, SpellsEdges, Spells}

-- by the numbers of the five cells, and whether there are no more
abbrev Tells : Option ℕ → Option ℕ → Option ℕ → Option ℕ → Option ℕ → Bool → Result NameBox CellCause → Type 0
Tells n l t r b all (Ok w) = (n ≡ Some w.name) × (l ≡ Some w.left) × (t ≡ Some w.top) × (r ≡ Some w.right) × (b ≡ Some w.bottom) × (all ≡ true)
Tells n l t r b all (Err Name) = n ≡ None
Tells n l t r b all (Err (Edge m)) = (n ≡ Some m) × ((x : NameBox) → l ≡ Some x.left → t ≡ Some x.top → r ≡ Some x.right → b ≡ Some x.bottom → all ≡ true → ⊥)

pub some_none : {v : ℕ} → None ≡ Some v → ⊥
some_none e = let z : ◌≡◌ {A = ℕ} 0 1 = cc in omega arith

tells : (n l t r b : Option ℕ) (all : Bool) → Tells n l t r b all (read_row n l t r b all)
tells None l t r b all = refl
tells (Some n) None t r b all = (refl, λ x e _ _ _ _. some_none e)
tells (Some n) (Some l) None r b all = (refl, λ x _ e _ _ _. some_none e)
tells (Some n) (Some l) (Some t) None b all = (refl, λ x _ _ e _ _. some_none e)
tells (Some n) (Some l) (Some t) (Some r) None all = (refl, λ x _ _ _ e _. some_none e)
tells (Some n) (Some l) (Some t) (Some r) (Some b) true = (refl, refl, refl, refl, refl, refl)
tells (Some n) (Some l) (Some t) (Some r) (Some b) false = (refl, λ x _ _ _ _ e. let z : ◌≡◌ {A = ℕ} 0 1 = cc in omega arith)

-- a row that reads so has such cells
abbrev pub CellsOf : List ℕ → Result NameBox CellCause → Type 0
CellsOf row (Ok w) = Spells row w
CellsOf row (Err Name) = cell row 0 ≡ None
CellsOf row (Err (Edge n)) = (cell row 0 ≡ Some n) × ((b : NameBox) → SpellsEdges row b → ⊥)

pub cells_of : (row : List ℕ) (a : Result NameBox CellCause) → a ≡ row_of row → CellsOf row a
cells_of row a e =
    by a (subst (Tells (cell row 0) (cell row 1) (cell row 2) (cell row 3) (cell row 4) (leb (length (cells row)) 5)) (sym e) (tells (cell row 0) (cell row 1) (cell row 2) (cell row 3) (cell row 4) (leb (length (cells row)) 5)))
  where
    by : (a : Result NameBox CellCause) → Tells (cell row 0) (cell row 1) (cell row 2) (cell row 3) (cell row 4) (leb (length (cells row)) 5) a → CellsOf row a
    by (Ok w) t = record { name = t.0; edges = record { left = t.1; top = t.2; right = t.3; bottom = t.4; five = leb-true (length (cells row)) 5 t.5 } }
    by (Err Name) t = t
    by (Err (Edge n)) t = (t.0, λ b s. t.1 b s.left s.top s.right s.bottom (le-leb (length (cells row)) 5 s.five))
