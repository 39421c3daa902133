-- Marks and what extends them: a sure item holds there, a lost item does not.
use Rattle.std.proofs.Common.{◌≡◌, ℕ, zero, suc, ◌+◌, ◌<◌, ◌≤◌, Bool, true, false, cond, leb, ◌⊎◌, List, [], ◌∷◌, length, sym, refl, ap, ◌∙◌, subst, inl, inr, arith}
use Rattle.std.proofs.lemmas.Bool.{cases_lt, leb-true, le-leb, lt-leb}
use Rattle.book.specs.declared.Mark.{Mark}
use Rattle.book.specs.declared.Mark.TheVariants.{Open, Yes, No}
use Rattle.book.specs.declared.Answer.{Answer}
use Rattle.book.specs.declared.Answer.TheVariants.{Yes as AnswerYes, No as AnswerNo}
use Rattle.book.specs.declared.Reading.TheVariants.{Quiet, Forced}
use Rattle.book.specs.Books.{mark_of, open_mark, Extends}
use Rattle.rules.specs.Rules.{Item, choice, count, mark_at, is_yes, yeses, both, either, holds}
use Rattle.rule_book.specs.declared.Status.{Status}
use Rattle.rule_book.specs.declared.Status.TheVariants.{Sure, Lost, Unsure}
use Rattle.rule_book.specs.Readings.{mark_status, opens, count_status, status, first_open}
use Rattle.rule_book.specs.Marks.{get_or_any, mark_at_none}

-- a choice that is not open keeps its mark
abbrev pub Grows : List Mark → List Mark → Type 0
Grows ms a = (c : ℕ) (v : Answer) → mark_at ms c ≡ mark_of v → mark_at a c ≡ mark_of v

pub grows : (ms a : List Mark) → Extends ms a → Grows ms a
grows ms a x zero v e = e
grows ms a x (suc k) v e =
    elim (cases_lt k (length ms)) [
      | inl h ↦ get_or_any a k No Open (omega (arith, x.0)) ∙ x.1 k v (get_or_any ms k Open No h ∙ e)
      | inr h ↦ sym (mark_at_none a (suc k) (λ p. omega (arith, x.0))) ∙ mark_at_none ms (suc k) (λ p. omega arith) ∙ e
    ]

pub same_grows : (ms : List Mark) → Grows ms ms
same_grows ms c v e = e

abbrev pub yes_step : Mark → ℕ
yes_step m = cond (is_yes m) 1 0

abbrev pub open_step : Mark → ℕ
open_step m = cond (open_mark m) 1 0

pub true_false : true ≡ false → ⊥
true_false e = cc

-- one choice is yes at least where it was, and at most where it was yes or open
step_low : (m n : Mark) → ((v : Answer) → m ≡ mark_of v → n ≡ mark_of v) → yes_step m ≤ yes_step n
step_low Open n f = omega arith
step_low Yes n f = let e : yes_step n ≡ 1 = ap yes_step (f AnswerYes refl) in omega arith
step_low No n f = omega arith

step_high : (m n : Mark) → ((v : Answer) → m ≡ mark_of v → n ≡ mark_of v) → yes_step n ≤ yes_step m + open_step m
step_high Open Open f = omega arith
step_high Open Yes f = omega arith
step_high Open No f = omega arith
step_high Yes n f = let e : yes_step n ≡ 1 = ap yes_step (f AnswerYes refl) in omega arith
step_high No n f = let e : yes_step n ≡ 0 = ap yes_step (f AnswerNo refl) in omega arith

module _ (ms a : List Mark) (g : Grows ms a) where
  pub yeses_low : (cs : List ℕ) → yeses ms cs ≤ yeses a cs
  yeses_low [] = omega arith
  yeses_low (c ∷ cs) = let h = step_low (mark_at ms c) (mark_at a c) (g c) in let t = yeses_low cs in omega arith

  pub yeses_high : (cs : List ℕ) → yeses a cs ≤ yeses ms cs + opens ms cs
  yeses_high [] = omega arith
  yeses_high (c ∷ cs) = let h = step_high (mark_at ms c) (mark_at a c) (g c) in let t = yeses_high cs in omega arith

-- the statuses told apart
abbrev Means : ℕ → ℕ → ℕ → ℕ → Status → Type 0
Means k m y o Sure = (k ≤ y) × (y + o ≤ m)
Means k m y o Lost = (m < y) ⊎ (y + o < k)
Means k m y o Unsure = Unit {0}

count_means : (k m y o : ℕ) → Means k m y o (count_status k m y o)
count_means k m y o = by (leb k y) (leb (y + o) m) (leb (suc m) y) (leb (suc (y + o)) k) refl refl refl refl
  where
    by : (p q r s : Bool) → leb k y ≡ p → leb (y + o) m ≡ q → leb (suc m) y ≡ r → leb (suc (y + o)) k ≡ s → Means k m y o (cond (both p q) Sure (cond (either r s) Lost Unsure))
    by true true r s ep eq er es = (leb-true k y ep, leb-true (y + o) m eq)
    by true false true s ep eq er es = inl (leb-true (suc m) y er)
    by true false false true ep eq er es = inr (leb-true (suc (y + o)) k es)
    by true false false false ep eq er es = tt
    by false q true s ep eq er es = inl (leb-true (suc m) y er)
    by false q false true ep eq er es = inr (leb-true (suc (y + o)) k es)
    by false q false false ep eq er es = tt

within : (k m y : ℕ) → k ≤ y → y ≤ m → both (leb k y) (leb y m) ≡ true
within k m y h g = let p = le-leb k y h in let q = le-leb y m g in rw (p, q)

pub above : (k m y : ℕ) → m < y → both (leb k y) (leb y m) ≡ false
above k m y h = rw (lt-leb y m h) (none (leb k y))
  where
    none : (b : Bool) → both b false ≡ false
    none true = refl
    none false = refl

pub below : (k m y : ℕ) → y < k → both (leb k y) (leb y m) ≡ false
below k m y h = rw (lt-leb k y h)

-- marks by their status
abbrev MarkMeans : Mark → Status → Type 0
MarkMeans m Sure = m ≡ Yes
MarkMeans m Lost = m ≡ No
MarkMeans m Unsure = m ≡ Open

mark_means : (m : Mark) → MarkMeans m (mark_status m)
mark_means Open = refl
mark_means Yes = refl
mark_means No = refl

pub unsure_open : (m : Mark) → mark_status m ≡ Unsure → m ≡ Open
unsure_open m e = let P : Status → Type 0 = MarkMeans m in subst P e (mark_means m)

module _ (ms a : List Mark) (g : Grows ms a) where
  pub sure_holds : (i : Item) → status ms i ≡ Sure → holds a i ≡ true
  sure_holds (choice c) e = let P : Status → Type 0 = MarkMeans (mark_at ms c) in ap is_yes (g c AnswerYes (subst P e (mark_means (mark_at ms c))))
  sure_holds (count k m cs) e =
      let P : Status → Type 0 = Means k m (yeses ms cs) (opens ms cs) in
      let b : (k ≤ yeses ms cs) × (yeses ms cs + opens ms cs ≤ m) = subst P e (count_means k m (yeses ms cs) (opens ms cs)) in
      let l = yeses_low ms a g cs in
      let h = yeses_high ms a g cs in
      within k m (yeses a cs) (omega (arith, b.0)) (omega (arith, b.1))

  pub lost_not : (i : Item) → status ms i ≡ Lost → holds a i ≡ false
  lost_not (choice c) e = let P : Status → Type 0 = MarkMeans (mark_at ms c) in ap is_yes (g c AnswerNo (subst P e (mark_means (mark_at ms c))))
  lost_not (count k m cs) e =
      let P : Status → Type 0 = Means k m (yeses ms cs) (opens ms cs) in
      let b : (m < yeses ms cs) ⊎ (yeses ms cs + opens ms cs < k) = subst P e (count_means k m (yeses ms cs) (opens ms cs)) in
      let l = yeses_low ms a g cs in
      let h = yeses_high ms a g cs in
      elim b [ inl x ↦ above k m (yeses a cs) (omega arith) | inr x ↦ below k m (yeses a cs) (omega arith) ]

-- the first open choice counts one more where it is yes, and one less where it is no
abbrev pub Turns : List Mark → List Mark → List ℕ → ℕ → Type 0
Turns ms a cs c = (mark_at ms c ≡ Open) × (mark_at a c ≡ Yes → yeses ms cs < yeses a cs) × (mark_at a c ≡ No → yeses a cs < yeses ms cs + opens ms cs)

pub quiet_forced : (c : ℕ) (v : Answer) → Quiet ≡ Forced c v → ⊥
quiet_forced c v e = cc

is_open : (m : Mark) → open_mark m ≡ true → m ≡ Open
is_open Open e = refl
is_open Yes e = absurd (true_false (sym e))
is_open No e = absurd (true_false (sym e))

turns_here : (ms a : List Mark) → Grows ms a → (d : ℕ) (cs : List ℕ) → mark_at ms d ≡ Open → Turns ms a (d ∷ cs) d
turns_here ms a g d cs e =
    let y : yes_step (mark_at ms d) ≡ 0 = ap yes_step e in
    let o : open_step (mark_at ms d) ≡ 1 = ap open_step e in
    let l = yeses_low ms a g cs in
    let h = yeses_high ms a g cs in
    (e, (λ p. let z : yes_step (mark_at a d) ≡ 1 = ap yes_step p in omega arith), (λ p. let z : yes_step (mark_at a d) ≡ 0 = ap yes_step p in omega arith))

turns_later : (ms a : List Mark) → Grows ms a → (d : ℕ) (cs : List ℕ) (c : ℕ) → Turns ms a cs c → Turns ms a (d ∷ cs) c
turns_later ms a g d cs c t =
    let l = step_low (mark_at ms d) (mark_at a d) (g d) in
    let h = step_high (mark_at ms d) (mark_at a d) (g d) in
    (t.0, (λ p. omega (arith, t.1 p)), (λ p. omega (arith, t.2 p)))

first_by : (ms a : List Mark) → Grows ms a → (d : ℕ) (cs : List ℕ) (v w : Answer) (c : ℕ) (b : Bool) → open_mark (mark_at ms d) ≡ b → (first_open ms cs v ≡ Forced c w → (v ≡ w) × Turns ms a cs c) → cond b (Forced d v) (first_open ms cs v) ≡ Forced c w → (v ≡ w) × Turns ms a (d ∷ cs) c
first_by ms a g d cs v w c true o rest e =
    let p : v ≡ w = cc in
    let q : d ≡ c = cc in
    (p, subst (λ (x : ℕ). Turns ms a (d ∷ cs) x) q (turns_here ms a g d cs (is_open (mark_at ms d) o)))
first_by ms a g d cs v w c false o rest e = let r = rest e in (r.0, turns_later ms a g d cs c r.1)

pub first_turns : (ms a : List Mark) → Grows ms a → (cs : List ℕ) (v w : Answer) (c : ℕ) → first_open ms cs v ≡ Forced c w → (v ≡ w) × Turns ms a cs c
first_turns ms a g [] v w c e = absurd (quiet_forced c w e)
first_turns ms a g (d ∷ cs) v w c e = first_by ms a g d cs v w c (open_mark (mark_at ms d)) refl (first_turns ms a g cs v w c) e
