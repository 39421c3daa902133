-- Which causes a text has at which boxes, and which of them is told. No reader comes in.
use Rattle.std.specs.Prelude.{◌≡◌, ℕ, zero, suc, ◌<◌, List, length, Some}
use Rattle.box_book.specs.declared.NameBox.{NameBox}
use Rattle.box_book.specs.declared.BoxCause.{BoxCause}
use Rattle.box_book.specs.declared.BoxCause.TheVariants.{TooMany, Name, Edge, NameFalls}
use Rattle.refusal.specs.declared.At.{At}
use Rattle.box_book.specs.Causes.{NumberFits, EdgesFit, Leads}
use Rattle.box_list.specs.Spelling.{row_at, cell, SpellsEdges}

-- the name cell has no number that a name may have
abbrev pub NoName : List ℕ → Type 0
NoName row = (n : ℕ) → cell row 0 ≡ Some n → NumberFits n → ⊥

-- the other cells are not four edges that fit, and no more
abbrev pub NoEdges : List ℕ → Type 0
NoEdges row = (b : NameBox) → SpellsEdges row b → EdgesFit b → ⊥

-- the name of the box is below that of the box before
abbrev pub Falls : List (List ℕ) → ℕ → Type 0
Falls rows zero = ⊥
Falls rows (suc k) = (m : ℕ) × (n : ℕ) × (cell (row_at rows k) 0 ≡ Some m) × (cell (row_at rows (suc k)) 0 ≡ Some n) × (n < m)

-- this cause is at this box of the rows
abbrev pub CauseAt : List (List ℕ) → BoxCause → ℕ → Type 0
CauseAt rows TooMany k = (4096 < length rows) × (k ≡ 4096)
CauseAt rows Name k = (k < length rows) × NoName (row_at rows k)
CauseAt rows Edge k = (k < length rows) × NoEdges (row_at rows k)
CauseAt rows NameFalls k = (k < length rows) × Falls rows k

abbrev pub NoFault : List (List ℕ) → Type 0
NoFault rows = (c : BoxCause) (k : ℕ) → CauseAt rows c k → ⊥

-- the fault that is told: of all that are there, the one that leads
abbrev pub FirstFault : List (List ℕ) → At BoxCause → Type 0
FirstFault rows f = CauseAt rows f.cause f.place × ((d : BoxCause) (k : ℕ) → CauseAt rows d k → Leads f.cause f.place d k)
