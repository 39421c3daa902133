-- Which causes a box list has, and which of them is told.
use Rattle.std.specs.Prelude.{◌≡◌, ℕ, zero, suc, ◌<◌, ◌≤◌, ◌⊎◌, List, length, ◌≢◌, slice_index_or}
use Rattle.refusal.specs.Causes.{told}
use Rattle.refusal.specs.declared.At.{At}
use Rattle.refusal.specs.declared.Layer.TheVariants.{Box}
use Rattle.refusal.specs.declared.Refusal.{Refusal}
use Rattle.box_book.specs.declared.NameBox.{NameBox}
use Rattle.box_book.specs.declared.BoxCause.{BoxCause}
use Rattle.box_book.specs.declared.BoxCause.TheVariants.{TooMany, Name, Edge, NameFalls}

abbrev pub box_number : BoxCause → ℕ
box_number TooMany = 20
box_number Name = 21
box_number Edge = 22
box_number NameFalls = 23

abbrev pub told_box : At BoxCause → Refusal
told_box = told box_number Box

-- what stands past the end of a list
abbrev pub no_box : NameBox
no_box = record { name = 0; left = 0; top = 0; right = 0; bottom = 0 }

-- the box at a place, counted from 0
abbrev pub box_at : List NameBox → ℕ → NameBox
box_at bs k = slice_index_or bs k no_box

-- the name before a place; 0, which is below every name, before the first
abbrev pub name_before : List NameBox → ℕ → ℕ
name_before bs zero = 0
name_before bs (suc k) = (box_at bs k).name

-- a name may have that number: names are 1 to 512
abbrev pub NumberFits : ℕ → Type 0
NumberFits n = (1 ≤ n) × (n ≤ 512)

-- names are 1 to 512
abbrev pub NameFits : NameBox → Type 0
NameFits b = (1 ≤ b.name) × (b.name ≤ 512)

-- edges are 0 to 20,000, left below right, top below bottom
abbrev pub EdgesFit : NameBox → Type 0
EdgesFit b = (b.left ≤ 20000) × (b.top ≤ 20000) × (b.right ≤ 20000) × (b.bottom ≤ 20000) × (b.left < b.right) × (b.top < b.bottom)

-- a box after one with that name has a cause; too many is a cause of no box
abbrev pub HasCause : NameBox → ℕ → BoxCause → Type 0
HasCause b before TooMany = ⊥
HasCause b before Name = NameFits b → ⊥
HasCause b before Edge = EdgesFit b → ⊥
HasCause b before NameFalls = b.name < before

-- a box with no cause
pub record Clean (b : NameBox) (before : ℕ) : Type 0 where
  pub name_fits : NameFits b
  pub edges_fit : EdgesFit b
  pub rises : before ≤ b.name

-- the cause with the smallest number that a box has
abbrev pub FirstCause : NameBox → ℕ → BoxCause → Type 0
FirstCause b before c = HasCause b before c × ((d : BoxCause) → HasCause b before d → box_number c ≤ box_number d)

-- this cause is at this place of the list
abbrev pub CauseAt : List NameBox → BoxCause → ℕ → Type 0
CauseAt bs TooMany k = (4096 < length bs) × (k ≡ 4096)
CauseAt bs Name k = (k < length bs) × HasCause (box_at bs k) (name_before bs k) Name
CauseAt bs Edge k = (k < length bs) × HasCause (box_at bs k) (name_before bs k) Edge
CauseAt bs NameFalls k = (k < length bs) × HasCause (box_at bs k) (name_before bs k) NameFalls

abbrev pub NoFault : List NameBox → Type 0
NoFault bs = (c : BoxCause) (k : ℕ) → CauseAt bs c k → ⊥

-- too many is told before all else; then the earliest place counts, and at one place the smallest number
abbrev pub Leads : BoxCause → ℕ → BoxCause → ℕ → Type 0
Leads TooMany p d k = Unit {0}
Leads Name p d k = (d ≢ TooMany) × ((p < k) ⊎ ((p ≡ k) × (21 ≤ box_number d)))
Leads Edge p d k = (d ≢ TooMany) × ((p < k) ⊎ ((p ≡ k) × (22 ≤ box_number d)))
Leads NameFalls p d k = (d ≢ TooMany) × ((p < k) ⊎ ((p ≡ k) × (23 ≤ box_number d)))

-- the fault that is told: of all that are there, the one that leads
abbrev pub FirstFault : List NameBox → At BoxCause → Type 0
FirstFault bs f = CauseAt bs f.cause f.place × ((d : BoxCause) (k : ℕ) → CauseAt bs d k → Leads f.cause f.place d k)

abbrev pub NamesFit : List NameBox → Type 0
NamesFit bs = (k : ℕ) → k < length bs → NameFits (box_at bs k)

-- names never fall along the list
abbrev pub Rises : List NameBox → Type 0
Rises bs = (k : ℕ) → suc k < length bs → (box_at bs k).name ≤ (box_at bs (suc k)).name

-- a list that a book can be made of
pub record Sound (bs : List NameBox) : Type 0 where
  pub few : length bs ≤ 4096
  pub names_fit : NamesFit bs
  pub edges_fit : (k : ℕ) → k < length bs → EdgesFit (box_at bs k)
  pub rises : Rises bs
