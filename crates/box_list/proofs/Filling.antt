-- The list, filled box by box.
use Rattle.std.proofs.Common.{◌≡◌, ℕ, zero, suc, ◌+◌, ◌<◌, ◌≤◌, List, length, take, drop, set, Ok, Err, Result, sym, refl, ap, ◌∙◌, subst, add-one, arith, length-set, get_or-set_other, get_or-set_same, below_more}
use Rattle.std.proofs.lemmas.List.{drop-drop, drop-set-lt, get_or-take, length-take-le}
use Rattle.box_book.specs.declared.NameBox.{NameBox}
use Rattle.box_book.specs.Causes.{no_box, box_at, name_before, Clean}
use Rattle.box_book.proofs.Checks.{sound_by}
use Rattle.box_text.specs.declared.CellCause.{CellCause}
use Rattle.box_list.specs.Spelling.{box_rows, row_at, Spells}
use Rattle.box_list.specs.Lists.{Judged, Listed}
use Rattle.box_list.proofs.Faults.{Taken, no_fault}
use Rattle.box_list.proofs.RowCells.{CellsOf}

-- a list in which i rows were put, and the name of the last box
pub record Filled (rows : List (List ℕ)) (old list : List NameBox) (i before : ℕ) : Type 0 where
  pub taken : (k : ℕ) → k < i → Taken rows list k
  pub last : before ≡ name_before list i
  pub rest : drop i list ≡ drop i old
  pub long : length list ≡ 4096

pub filled_none : (rows : List (List ℕ)) (list : List NameBox) → length list ≡ 4096 → Filled rows list list 0 0
filled_none rows list l = record { taken = λ k h. absurd (omega arith); last = refl; rest = refl; long = l }

-- the box that a row is
pub judged_box : (row : List ℕ) (a : Result NameBox CellCause) (before : ℕ) (b : NameBox) → CellsOf row a → Judged a before (Ok b) → Spells row b × Clean b before
judged_box row (Ok w) before b s j = (subst (Spells row) (sym j.0) s, j.1)
judged_box row (Err e) before b s j = absurd j

module _ (rows : List (List ℕ)) (old list : List NameBox) (i before : ℕ) (b : NameBox) (f : Filled rows old list i before) (lt : i < 4096) where
  here : box_at (set list i b) i ≡ b
  here = get_or-set_same list i b no_box (omega (arith, f.long))

  there : (k : ℕ) → k < i → box_at (set list i b) k ≡ box_at list k
  there k h = get_or-set_other list i k b no_box (λ e. omega arith)

  before_there : (k : ℕ) → k ≤ i → name_before (set list i b) k ≡ name_before list k
  before_there zero h = refl
  before_there (suc k) h = ap (λ (x : NameBox). x.name) (there k (omega arith))

  kept : (k : ℕ) → k < i → Taken rows (set list i b) k
  kept k h =
      let t = f.taken k h in
      record {
        spells = subst (Spells (row_at rows k)) (sym (there k h)) t.spells;
        clean = rw (there k h, before_there k (omega arith)) t.clean;
      }

  pub filled_more : Spells (row_at rows i) b → Clean b before → Filled rows old (set list i b) (i + 1) b.name
  filled_more s c = record {
    taken = below_more (Taken rows (set list i b)) i kept (record {
      spells = subst (Spells (row_at rows i)) (sym here) s;
      clean = rw (here, before_there i (omega arith), ← f.last) c;
    });
    last = sym (rw add-one (ap (λ (x : NameBox). x.name) here));
    rest = drop-set-lt (i + 1) list i b (omega arith) ∙ sym (drop-drop 1 i list) ∙ ap (drop 1) f.rest ∙ drop-drop 1 i old;
    long = length-set list i b ∙ f.long;
  }

-- all rows were put into the list
module _ (text : List ℕ) (old list : List NameBox) (i before : ℕ) (f : Filled (box_rows text) old list i before) (all : i ≡ length (box_rows text)) (few : i ≤ 4096) where
  front : (k : ℕ) → k < i → box_at (take i list) k ≡ box_at list k
  front k h = get_or-take i list k no_box h

  before_front : (k : ℕ) → k < i → name_before (take i list) k ≡ name_before list k
  before_front zero h = refl
  before_front (suc k) h = ap (λ (x : NameBox). x.name) (front k (omega arith))

  long : length (take i list) ≡ i
  long = length-take-le i list (omega (arith, f.long))

  pub listed : Listed text (take i list)
  listed = record {
    spelled = record {
      many = long ∙ all;
      each = λ k h. subst (Spells (row_at (box_rows text) k)) (sym (front k (omega arith))) (f.taken k (omega arith)).spells;
    };
    faultless = no_fault (box_rows text) list (omega arith) (λ k h. f.taken k (omega arith));
    sound = sound_by (take i list) (omega (arith, long)) (λ k h. let l : k < i = omega (arith, long) in rw (front k l, before_front k l) (f.taken k l).clean);
  }
