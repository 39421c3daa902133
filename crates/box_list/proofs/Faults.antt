-- The first row that is no clean box has the fault that is told; rows that all are clean boxes have none.
use Rattle.std.proofs.Common.{◌≡◌, ℕ, zero, suc, ◌<◌, ◌≤◌, ◌⊎◌, List, length, Some, Ok, Err, Result, sym, refl, ◌∙◌, subst, inl, inr, arith}
use Rattle.std.proofs.lemmas.Bool.{cases_order}
use Rattle.box_book.specs.declared.NameBox.{NameBox}
use Rattle.box_book.specs.declared.BoxCause.{BoxCause}
use Rattle.box_book.specs.declared.BoxCause.TheVariants.{TooMany, Name, Edge, NameFalls}
use Rattle.box_book.specs.Causes.{box_number, box_at, name_before, NumberFits, EdgesFit, HasCause, Clean}
use Rattle.box_book.proofs.Checks.{leads}
use Rattle.box_text.specs.declared.CellCause.{CellCause}
use Rattle.box_text.specs.declared.CellCause.TheVariants.{Name as NameCell, Edge as EdgeCell}
use Rattle.box_list.specs.Spelling.{row_at, cell, SpellsEdges, Spells}
use Rattle.box_list.specs.Causes.{Falls, CauseAt, NoFault, FirstFault}
use Rattle.box_list.specs.Lists.{Judged}
use Rattle.box_list.proofs.RowCells.{CellsOf, some_none}

-- the row at a place spells the box at that place of the list, which is clean
pub record Taken (rows : List (List ℕ)) (list : List NameBox) (k : ℕ) : Type 0 where
  pub spells : Spells (row_at rows k) (box_at list k)
  pub clean : Clean (box_at list k) (name_before list k)

same_some : {m n : ℕ} → Some m ≡ Some n → m ≡ n
same_some e = cc

same_edges : (row : List ℕ) (a b : NameBox) → SpellsEdges row a → SpellsEdges row b → EdgesFit a → EdgesFit b
same_edges row a b s t f =
    let l : a.left ≡ b.left = same_some (sym s.left ∙ t.left) in
    let u : a.top ≡ b.top = same_some (sym s.top ∙ t.top) in
    let r : a.right ≡ b.right = same_some (sym s.right ∙ t.right) in
    let d : a.bottom ≡ b.bottom = same_some (sym s.bottom ∙ t.bottom) in
    (omega arith, omega arith, omega arith, omega arith, omega arith, omega arith)

-- a place where the rows are clean boxes up to it has no cause
no_cause : (rows : List (List ℕ)) (list : List NameBox) (d : BoxCause) (k : ℕ) → ((j : ℕ) → j ≤ k → Taken rows list j) → (d ≡ TooMany → ⊥) → CauseAt rows d k → ⊥
no_cause rows list TooMany k t f x = f refl
no_cause rows list Name k t f x = let h = t k (omega arith) in x.1 (box_at list k).name h.spells.name h.clean.name_fits
no_cause rows list Edge k t f x = let h = t k (omega arith) in x.1 (box_at list k) h.spells.edges h.clean.edges_fit
no_cause rows list NameFalls zero t f x = x.1
no_cause rows list NameFalls (suc k) t f x =
    let h = t (suc k) (omega arith) in
    let g = t k (omega arith) in
    let m : x.1.0 ≡ (box_at list k).name = same_some (sym x.1.2 ∙ g.spells.name) in
    let n : x.1.1 ≡ (box_at list (suc k)).name = same_some (sym x.1.3 ∙ h.spells.name) in
    omega (arith, x.1.4, h.clean.rises)

many : (rows : List (List ℕ)) (d : BoxCause) (k : ℕ) → length rows ≤ 4096 → CauseAt rows d k → d ≡ TooMany → ⊥
many rows TooMany k few x e = omega (arith, x.0)
many rows Name k few x e = let z : ◌≡◌ {A = ℕ} 0 1 = cc in omega arith
many rows Edge k few x e = let z : ◌≡◌ {A = ℕ} 0 1 = cc in omega arith
many rows NameFalls k few x e = let z : ◌≡◌ {A = ℕ} 0 1 = cc in omega arith

within : (rows : List (List ℕ)) (d : BoxCause) (k : ℕ) → length rows ≤ 4096 → CauseAt rows d k → k < length rows
within rows TooMany k few x = absurd (omega (arith, x.0))
within rows Name k few x = x.0
within rows Edge k few x = x.0
within rows NameFalls k few x = x.0

pub no_fault : (rows : List (List ℕ)) (list : List NameBox) → length rows ≤ 4096 → ((k : ℕ) → k < length rows → Taken rows list k) → NoFault rows
no_fault rows list few t c k x =
    let l = within rows c k few x in no_cause rows list c k (λ j h. t j (omega arith)) (many rows c k few x) x

-- the smallest number is that of a name
least_name : (d : BoxCause) → (d ≡ TooMany → ⊥) → 21 ≤ box_number d
least_name TooMany f = absurd (f refl)
least_name Name f = omega arith
least_name Edge f = omega arith
least_name NameFalls f = omega arith

-- the name of a row falls exactly if it is below that of the box before
falls : (rows : List (List ℕ)) (list : List NameBox) (i before : ℕ) (b : NameBox) → before ≡ name_before list i → ((k : ℕ) → k < i → Taken rows list k) → Spells (row_at rows i) b → b.name < before → Falls rows i
falls rows list zero before b last t s l = omega arith
falls rows list (suc k) before b last t s l = ((box_at list k).name, b.name, (t k (omega arith)).spells.name, s.name, omega arith)

falls_back : (rows : List (List ℕ)) (list : List NameBox) (i before : ℕ) (b : NameBox) → before ≡ name_before list i → ((k : ℕ) → k < i → Taken rows list k) → Spells (row_at rows i) b → Falls rows i → b.name < before
falls_back rows list zero before b last t s x = absurd x
falls_back rows list (suc k) before b last t s x =
    let m : x.0 ≡ (box_at list k).name = same_some (sym x.2 ∙ (t k (omega arith)).spells.name) in
    let n : x.1 ≡ b.name = same_some (sym x.3 ∙ s.name) in
    omega (arith, x.4)

-- The row at place i, where those before it are clean boxes.
module _ (rows : List (List ℕ)) (list : List NameBox) (i before : ℕ) (few : length rows ≤ 4096) (lt : i < length rows) (last : before ≡ name_before list i) (t : (k : ℕ) → k < i → Taken rows list k) where
  -- the causes of a row that is five numbers are those of its box
  module _ (b : NameBox) (s : Spells (row_at rows i) b) where
    to : (c : BoxCause) → HasCause b before c → CauseAt rows c i
    to TooMany x = absurd x
    to Name x = (lt, λ n e f. let q : n ≡ b.name = same_some (sym e ∙ s.name) in x (omega arith, omega arith))
    to Edge x = (lt, λ a e f. x (same_edges (row_at rows i) a b e s.edges f))
    to NameFalls x = (lt, falls rows list i before b last t s x)

    from : (d : BoxCause) → (d ≡ TooMany → ⊥) → CauseAt rows d i → HasCause b before d
    from TooMany f x = absurd (f refl)
    from Name f x = λ n. x.1 b.name s.name n
    from Edge f x = λ e. x.1 b s.edges e
    from NameFalls f x = falls_back rows list i before b last t s x.1

  -- a cause of that row, with the smallest number that it has
  Least : BoxCause → Type 0
  Least c = CauseAt rows c i × ((d : BoxCause) → (d ≡ TooMany → ⊥) → CauseAt rows d i → box_number c ≤ box_number d)

  least_edge : (n : ℕ) → cell (row_at rows i) 0 ≡ Some n → NumberFits n → (d : BoxCause) → (d ≡ TooMany → ⊥) → CauseAt rows d i → 22 ≤ box_number d
  least_edge n e h TooMany f x = absurd (f refl)
  least_edge n e h Name f x = absurd (x.1 n e h)
  least_edge n e h Edge f x = omega arith
  least_edge n e h NameFalls f x = omega arith

  least : (a : Result NameBox CellCause) (c : BoxCause) → CellsOf (row_at rows i) a → Judged a before (Err c) → Least c
  unfolding Least
  least (Ok w) c s j = (to w s c j.0, λ d f x. j.1 d (from w s d f x))
  least (Err NameCell) c e j = subst Least (sym j) ((lt, λ n q _. some_none (sym e ∙ q)), λ d f x. least_name d f)
  least (Err (EdgeCell n)) c e (inl j) = subst Least (sym j.1) ((lt, λ b s _. e.1 b s), least_edge n e.0 j.0)
  least (Err (EdgeCell n)) c e (inr j) =
      subst Least (sym j.1) ((lt, λ m q h. let o : m ≡ n = same_some (sym q ∙ e.0) in j.0 (omega arith, omega arith)), λ d f x. least_name d f)

  pub first_fault : (a : Result NameBox CellCause) (c : BoxCause) → CellsOf (row_at rows i) a → Judged a before (Err c) → FirstFault rows (record { cause = c; place = i })
  unfolding Least
  first_fault a c e j =
      let l = least a c e j in
      (l.0, λ d k x. leads c d i k (many rows d k few x) (by l.1 d k x (cases_order i k)))
    where
      by : ((d : BoxCause) → (d ≡ TooMany → ⊥) → CauseAt rows d i → box_number c ≤ box_number d) → (d : BoxCause) (k : ℕ) → CauseAt rows d k → (i ≡ k) ⊎ ((i < k) ⊎ (k < i)) → (i < k) ⊎ ((i ≡ k) × (box_number c ≤ box_number d))
      by g d k x (inl q) = inr (q, g d (many rows d k few x) (subst (λ (n : ℕ). CauseAt rows d n) (sym q) x))
      by g d k x (inr (inl q)) = inl q
      by g d k x (inr (inr q)) = absurd (no_cause rows list d k (λ n h. t n (omega arith)) (many rows d k few x) x)
