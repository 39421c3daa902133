-- The items of a side, but for the unsure ones, are as good as gone.
use Rattle.std.proofs.Common.{◌≡◌, ℕ, suc, ◌+◌, Bool, true, false, cond, leb, List, [], ◌∷◌, sym, refl, ap, ◌∙◌, subst, arith}
use Rattle.std.proofs.lemmas.Bool.{leb-false}
use Rattle.book.specs.declared.Mark.{Mark}
use Rattle.book.specs.declared.Mark.TheVariants.{Open, Yes, No}
use Rattle.book.specs.Books.{Settled}
use Rattle.rules.specs.Rules.{Item, choice, count, mark_at, yeses, both, either, holds, all_hold, some_holds}
use Rattle.rule_book.specs.declared.Status.{Status}
use Rattle.rule_book.specs.declared.Status.TheVariants.{Sure, Lost, Unsure}
use Rattle.rule_book.specs.Readings.{opens, count_status, status, is_sure, is_lost, is_unsure, some_sure, some_lost, unsure_items}
use Rattle.rule_book.specs.Marks.{settled_at}
use Rattle.rule_book.specs.Grown.{Grows, open_step, sure_holds, lost_not, unsure_open, true_false}

module _ (ms a : List Mark) (g : Grows ms a) where
  all_by : (i : Item) (is : List Item) (s : Status) → status ms i ≡ s → either (is_lost s) (some_lost ms is) ≡ false → (some_lost ms is ≡ false → all_hold a is ≡ all_hold a (unsure_items ms is)) → both (holds a i) (all_hold a is) ≡ all_hold a (cond (is_unsure s) (i ∷ unsure_items ms is) (unsure_items ms is))
  all_by i is Sure e f rest = ap (λ (b : Bool). both b (all_hold a is)) (sure_holds ms a g i e) ∙ rest f
  all_by i is Lost e f rest = absurd (true_false f)
  all_by i is Unsure e f rest = ap (λ (b : Bool). both (holds a i) b) (rest f)

  -- with no lost item, all hold if all the unsure ones do
  pub all_unsure : (is : List Item) → some_lost ms is ≡ false → all_hold a is ≡ all_hold a (unsure_items ms is)
  all_unsure [] f = refl
  all_unsure (i ∷ is) f = all_by i is (status ms i) refl f (all_unsure is)

  some_by : (i : Item) (is : List Item) (s : Status) → status ms i ≡ s → either (is_sure s) (some_sure ms is) ≡ false → (some_sure ms is ≡ false → some_holds a is ≡ some_holds a (unsure_items ms is)) → either (holds a i) (some_holds a is) ≡ some_holds a (cond (is_unsure s) (i ∷ unsure_items ms is) (unsure_items ms is))
  some_by i is Sure e f rest = absurd (true_false f)
  some_by i is Lost e f rest = ap (λ (b : Bool). either b (some_holds a is)) (lost_not ms a g i e) ∙ rest f
  some_by i is Unsure e f rest = ap (λ (b : Bool). either (holds a i) b) (rest f)

  -- with no sure item, some item holds if some unsure one does
  pub some_unsure : (is : List Item) → some_sure ms is ≡ false → some_holds a is ≡ some_holds a (unsure_items ms is)
  some_unsure [] f = refl
  some_unsure (i ∷ is) f = some_by i is (status ms i) refl f (some_unsure is)

  lost_by : (i : Item) (is : List Item) (s : Status) → status ms i ≡ s → either (is_lost s) (some_lost ms is) ≡ true → (some_lost ms is ≡ true → all_hold a is ≡ false) → both (holds a i) (all_hold a is) ≡ false
  lost_by i is Sure e f rest = ap (λ (b : Bool). both b (all_hold a is)) (sure_holds ms a g i e) ∙ rest f
  lost_by i is Lost e f rest = ap (λ (b : Bool). both b (all_hold a is)) (lost_not ms a g i e)
  lost_by i is Unsure e f rest = ap (λ (b : Bool). both (holds a i) b) (rest f) ∙ fails (holds a i)
    where
      fails : (b : Bool) → both b false ≡ false
      fails true = refl
      fails false = refl

  -- with a lost item, not all hold
  pub lost_fails : (is : List Item) → some_lost ms is ≡ true → all_hold a is ≡ false
  lost_fails [] f = absurd (true_false (sym f))
  lost_fails (i ∷ is) f = lost_by i is (status ms i) refl f (lost_fails is)

  sure_by : (i : Item) (is : List Item) (s : Status) → status ms i ≡ s → either (is_sure s) (some_sure ms is) ≡ true → (some_sure ms is ≡ true → some_holds a is ≡ true) → either (holds a i) (some_holds a is) ≡ true
  sure_by i is Sure e f rest = ap (λ (b : Bool). either b (some_holds a is)) (sure_holds ms a g i e)
  sure_by i is Lost e f rest = ap (λ (b : Bool). either b (some_holds a is)) (lost_not ms a g i e) ∙ rest f
  sure_by i is Unsure e f rest = ap (λ (b : Bool). either (holds a i) b) (rest f) ∙ passes (holds a i)
    where
      passes : (b : Bool) → either b true ≡ true
      passes true = refl
      passes false = refl

  -- with a sure item, some item holds
  pub sure_passes : (is : List Item) → some_sure ms is ≡ true → some_holds a is ≡ true
  sure_passes [] f = absurd (true_false (sym f))
  sure_passes (i ∷ is) f = sure_by i is (status ms i) refl f (sure_passes is)

first_by : (ms : List Mark) (j : Item) (is : List Item) (i : Item) (us : List Item) (s : Status) → status ms j ≡ s → (unsure_items ms is ≡ i ∷ us → status ms i ≡ Unsure) → cond (is_unsure s) (j ∷ unsure_items ms is) (unsure_items ms is) ≡ i ∷ us → status ms i ≡ Unsure
first_by ms j is i us Sure e rest f = rest f
first_by ms j is i us Lost e rest f = rest f
first_by ms j is i us Unsure e rest f = let q : j ≡ i = cc in subst (λ (x : Item). status ms x ≡ Unsure) q e

-- the unsure items are unsure
pub first_unsure : (ms : List Mark) (is : List Item) (i : Item) (us : List Item) → unsure_items ms is ≡ i ∷ us → status ms i ≡ Unsure
first_unsure ms [] i us f = cc
first_unsure ms (j ∷ is) i us f = first_by ms j is i us (status ms j) refl (first_unsure ms is i us) f

-- with none open, no item is unsure
no_opens : (ms : List Mark) → Settled ms → (cs : List ℕ) → opens ms cs ≡ 0
no_opens ms s [] = refl
no_opens ms s (c ∷ cs) =
    let z = no_opens ms s cs in
    let h : open_step (mark_at ms c) ≡ 0 = closed (mark_at ms c) (settled_at ms s c) in
    omega arith
  where
    closed : (m : Mark) → (m ≡ Open → ⊥) → open_step m ≡ 0
    closed Open f = absurd (f refl)
    closed Yes f = refl
    closed No f = refl

decided : (k m y o : ℕ) → o ≡ 0 → count_status k m y o ≡ Unsure → ⊥
decided k m y o z = by (leb k y) (leb (y + o) m) (leb (suc m) y) (leb (suc (y + o)) k) refl refl refl refl
  where
    off : {s : Status} → s ≡ Unsure → is_unsure s ≡ true
    off e = ap is_unsure e

    by : (p q r s : Bool) → leb k y ≡ p → leb (y + o) m ≡ q → leb (suc m) y ≡ r → leb (suc (y + o)) k ≡ s → cond (both p q) Sure (cond (either r s) Lost Unsure) ≡ Unsure → ⊥
    by true true r s ep eq er es e = true_false (sym (off e))
    by true false true s ep eq er es e = true_false (sym (off e))
    by true false false true ep eq er es e = true_false (sym (off e))
    by true false false false ep eq er es e = omega (arith, leb-false (y + o) m eq, leb-false (suc m) y er)
    by false q true s ep eq er es e = true_false (sym (off e))
    by false q false true ep eq er es e = true_false (sym (off e))
    by false q false false ep eq er es e = omega (arith, leb-false k y ep, leb-false (suc (y + o)) k es)

pub none_unsure : (ms : List Mark) → Settled ms → (i : Item) → status ms i ≡ Unsure → ⊥
none_unsure ms s (choice c) e = settled_at ms s c (unsure_open (mark_at ms c) e)
none_unsure ms s (count k m cs) e = decided k m (yeses ms cs) (opens ms cs) (no_opens ms s cs) e

pub no_unsure : (ms : List Mark) → Settled ms → (is : List Item) → unsure_items ms is ≡ []
no_unsure ms s is = by (unsure_items ms is) refl
  where
    by : (us : List Item) → unsure_items ms is ≡ us → us ≡ []
    by [] e = refl
    by (i ∷ us) e = absurd (none_unsure ms s i (first_unsure ms is i us e))
