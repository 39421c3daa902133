-- The reading of rules keeps the laws of books.
use Rattle.std.proofs.Common.{◌≡◌, ℕ, ◌+◌, ◌-◌, ◌<◌, ◌≤◌, Bool, true, false, cond, eqb, ◌⊎◌, List, [], ◌∷◌, length, get_or, sym, refl, ap, ◌∙◌, inl, inr, arith}
use Rattle.std.proofs.lemmas.Bool.{eqb-true}
use Rattle.book.specs.declared.Mark.{Mark}
use Rattle.book.specs.declared.Mark.TheVariants.{Open, Yes, No}
use Rattle.book.specs.declared.Answer.{Answer}
use Rattle.book.specs.declared.Answer.TheVariants.{Yes as AnswerYes, No as AnswerNo}
use Rattle.book.specs.declared.Reading.{Reading}
use Rattle.book.specs.declared.Reading.TheVariants.{Broken, Quiet, Forced}
use Rattle.book.specs.Books.{mark_of, Extends, Settled, Laws, first_loud}
use Rattle.rules.specs.Rules.{Item, choice, count, Rule, mark_at, is_yes, yeses, both, either, holds, all_hold, some_holds, Kept, AllKept}
use Rattle.rule_book.specs.declared.Role.TheVariants.{Body, Head}
use Rattle.rule_book.specs.Readings.{opens, some_sure, some_lost, unsure_items, first_open, body_pressed, head_pressed, pressed, rule_reading, rules_reading}
use Rattle.rule_book.specs.Meaning.{Allowed}
use Rattle.rule_book.specs.Fold.{pressed_broken}
use Rattle.rule_book.specs.Marks.{mark_at_in, open_in, settled_at}
use Rattle.rule_book.specs.Grown.{Grows, grows, same_grows, above, below, unsure_open, Turns, first_turns, true_false, quiet_forced}
use Rattle.rule_book.specs.Items.{all_unsure, some_unsure, lost_fails, sure_passes, first_unsure, no_unsure}

quiet_broken : Quiet ≡ Broken → ⊥
quiet_broken e = cc

broken_forced : (c : ℕ) (v : Answer) → Broken ≡ Forced c v → ⊥
broken_forced c v e = cc

-- the ways in which a rule comes to its reading
abbrev Clear : List Mark → Rule → Type 0
Clear ms r = (some_lost ms r.body ≡ false) × (some_sure ms r.head ≡ false)

abbrev Unsures : List Mark → Rule → List Item → List Item → Type 0
Unsures ms r bs hs = (unsure_items ms r.body ≡ bs) × (unsure_items ms r.head ≡ hs)

data Way (ms : List Mark) (r : Rule) : Reading → Type 0 where
  lost : some_lost ms r.body ≡ true → Way ms r Quiet
  sure : some_sure ms r.head ≡ true → Way ms r Quiet
  none : Clear ms r → Unsures ms r [] [] → Way ms r Broken
  in_body : Clear ms r → (i : Item) → Unsures ms r (i ∷ []) [] → Way ms r (body_pressed i)
  in_head : Clear ms r → (i : Item) → Unsures ms r [] (i ∷ []) → Way ms r (head_pressed ms i)
  several : (Unsures ms r [] [] → ⊥) → Way ms r Quiet

some_item : (i : Item) (us vs : List Item) → vs ≡ i ∷ us → vs ≡ [] → ⊥
some_item i us vs e f = cc

way : (ms : List Mark) (r : Rule) → Way ms r (rule_reading ms r)
way ms r = by (some_lost ms r.body) (some_sure ms r.head) refl refl
  where
    clear : Clear ms r → (bs hs : List Item) → Unsures ms r bs hs → Way ms r (pressed ms bs hs)
    clear k [] [] u = none k u
    clear k (i ∷ []) [] u = in_body k i u
    clear k [] (i ∷ []) u = in_head k i u
    clear k [] (i ∷ j ∷ hs) u = several (λ w. some_item i (j ∷ hs) _ u.1 w.1)
    clear k (i ∷ []) (j ∷ hs) u = several (λ w. some_item i [] _ u.0 w.0)
    clear k (i ∷ j ∷ bs) hs u = several (λ w. some_item i (j ∷ bs) _ u.0 w.0)

    by : (l s : Bool) → some_lost ms r.body ≡ l → some_sure ms r.head ≡ s → Way ms r (cond (either l s) Quiet (pressed ms (unsure_items ms r.body) (unsure_items ms r.head)))
    by true s el es = lost el
    by false true el es = sure es
    by false false el es = clear (el, es) _ _ (refl, refl)

-- what a count in the head forces
count_by : (ms a : List Mark) → Grows ms a → (k m : ℕ) (cs : List ℕ) (c : ℕ) (v : Answer) → head_pressed ms (count k m cs) ≡ Forced c v → Turns ms a cs c × (((AnswerNo ≡ v) × (yeses ms cs ≡ m)) ⊎ ((AnswerYes ≡ v) × (yeses ms cs + opens ms cs ≡ k)))
count_by ms a g k m cs c v = by (eqb (yeses ms cs) m) (eqb (yeses ms cs + opens ms cs) k) refl refl
  where
    by : (p q : Bool) → eqb (yeses ms cs) m ≡ p → eqb (yeses ms cs + opens ms cs) k ≡ q → cond p (first_open ms cs AnswerNo) (cond q (first_open ms cs AnswerYes) Quiet) ≡ Forced c v → Turns ms a cs c × (((AnswerNo ≡ v) × (yeses ms cs ≡ m)) ⊎ ((AnswerYes ≡ v) × (yeses ms cs + opens ms cs ≡ k)))
    by true q ep eq e = let t = first_turns ms a g cs AnswerNo v c e in (t.1, inl (t.0, eqb-true (yeses ms cs) m ep))
    by false true ep eq e = let t = first_turns ms a g cs AnswerYes v c e in (t.1, inr (t.0, eqb-true (yeses ms cs + opens ms cs) k eq))
    by false false ep eq e = absurd (quiet_forced c v e)

-- a forced choice is open
way_open : {ms : List Mark} {r : Rule} {x : Reading} → Way ms r x → (c : ℕ) (v : Answer) → x ≡ Forced c v → mark_at ms c ≡ Open
way_open (lost l) c v e = absurd (quiet_forced c v e)
way_open (sure s) c v e = absurd (quiet_forced c v e)
way_open (none k u) c v e = absurd (broken_forced c v e)
way_open {ms} {r} (in_body k (choice d) u) c v e =
    let q : d ≡ c = cc in rw (← q) (unsure_open (mark_at ms d) (first_unsure ms r.body (choice d) [] u.0))
way_open (in_body k (count lo hi cs) u) c v e = absurd (quiet_forced c v e)
way_open {ms} {r} (in_head k (choice d) u) c v e =
    let q : d ≡ c = cc in rw (← q) (unsure_open (mark_at ms d) (first_unsure ms r.head (choice d) [] u.1))
way_open {ms} {r} (in_head k (count lo hi cs) u) c v e = (count_by ms ms (same_grows ms) lo hi cs c v e).0.0
way_open (several n) c v e = absurd (quiet_forced c v e)

must_no : (m : Mark) → (m ≡ Open → ⊥) → (m ≡ Yes → ⊥) → m ≡ No
must_no Open f g = absurd (f refl)
must_no Yes f g = absurd (g refl)
must_no No f g = refl

must_yes : (m : Mark) → (m ≡ Open → ⊥) → (m ≡ No → ⊥) → m ≡ Yes
must_yes Open f g = absurd (f refl)
must_yes Yes f g = refl
must_yes No f g = absurd (g refl)

module _ (ms a : List Mark) (g : Grows ms a) (r : Rule) (kept : Kept a r) where
  -- a rule that is kept, by its unsure items
  kept_by : Clear ms r → (bs hs : List Item) → Unsures ms r bs hs → all_hold a bs ≡ true → some_holds a hs ≡ false → ⊥
  kept_by k bs hs u p q =
      let b : all_hold a r.body ≡ true = all_unsure ms a g r.body k.0 ∙ ap (all_hold a) u.0 ∙ p in
      let h : some_holds a r.head ≡ false = some_unsure ms a g r.head k.1 ∙ ap (some_holds a) u.1 ∙ q in
      true_false (sym (kept b) ∙ h)

  alone : Clear ms r → (i : Item) → Unsures ms r [] (i ∷ []) → holds a i ≡ false → ⊥
  alone k i u e = kept_by k [] (i ∷ []) u refl (ap (λ (b : Bool). either b false) e)

  way_broken : {x : Reading} → Way ms r x → x ≡ Broken → ⊥
  way_broken (lost l) e = quiet_broken e
  way_broken (sure s) e = quiet_broken e
  way_broken (none k u) e = kept_by k [] [] u refl refl
  way_broken (in_body k i u) e = pressed_broken Body ms i e
  way_broken (in_head k i u) e = pressed_broken Head ms i e
  way_broken (several n) e = quiet_broken e

  -- each choice of the arrangement is answered
  module _ (answered : (c : ℕ) → mark_at a c ≡ Open → ⊥) where
    count_forced : Clear ms r → (lo hi : ℕ) (cs : List ℕ) (c : ℕ) (v : Answer) → Unsures ms r [] (count lo hi cs ∷ []) → head_pressed ms (count lo hi cs) ≡ Forced c v → mark_at a c ≡ mark_of v
    count_forced k lo hi cs c v u e =
        let t = count_by ms a g lo hi cs c v e in
        elim t.1 [
          | inl f ↦ must_no (mark_at a c) (answered c) (λ p. alone k (count lo hi cs) u (above lo hi (yeses a cs) (omega (arith, t.0.1 p, f.1)))) ∙ ap mark_of f.0
          | inr f ↦ must_yes (mark_at a c) (answered c) (λ p. alone k (count lo hi cs) u (below lo hi (yeses a cs) (omega (arith, t.0.2 p, f.1)))) ∙ ap mark_of f.0
        ]

    way_forced : {x : Reading} → Way ms r x → (c : ℕ) (v : Answer) → x ≡ Forced c v → mark_at a c ≡ mark_of v
    way_forced (lost l) c v e = absurd (quiet_forced c v e)
    way_forced (sure s) c v e = absurd (quiet_forced c v e)
    way_forced (none k u) c v e = absurd (broken_forced c v e)
    way_forced (in_body k (choice d) u) c v e =
        let q : d ≡ c = cc in
        let w : AnswerNo ≡ v = cc in
        rw (← q, ← w) (must_no (mark_at a d) (answered d) (λ p. kept_by k (choice d ∷ []) [] u (ap (λ (m : Mark). both (is_yes m) true) p) refl))
    way_forced (in_body k (count lo hi cs) u) c v e = absurd (quiet_forced c v e)
    way_forced (in_head k (choice d) u) c v e =
        let q : d ≡ c = cc in
        let w : AnswerYes ≡ v = cc in
        rw (← q, ← w) (must_yes (mark_at a d) (answered d) (λ p. alone k (choice d) u (ap is_yes p)))
    way_forced (in_head k (count lo hi cs) u) c v e = count_forced k lo hi cs c v u e
    way_forced (several n) c v e = absurd (quiet_forced c v e)

-- marks with none open
module _ (ms : List Mark) (s : Settled ms) (r : Rule) where
  settled_by : {x : Reading} → Way ms r x → ((x ≡ Quiet) × Kept ms r) ⊎ ((x ≡ Broken) × (Kept ms r → ⊥))
  settled_by (lost l) = inl (refl, λ p. absurd (true_false (sym p ∙ lost_fails ms ms (same_grows ms) r.body l)))
  settled_by (sure l) = inl (refl, λ p. sure_passes ms ms (same_grows ms) r.head l)
  settled_by (none k u) = inr (refl, λ kept. kept_by ms ms (same_grows ms) r kept k [] [] u refl refl)
  settled_by (in_body k i u) = absurd (some_item i [] _ u.0 (no_unsure ms s r.body))
  settled_by (in_head k i u) = absurd (some_item i [] _ u.1 (no_unsure ms s r.head))
  settled_by (several n) = absurd (n (no_unsure ms s r.body, no_unsure ms s r.head))

-- a reading of rules is that of one of them
loud_broken : (x y : Reading) → (x ≡ Broken → ⊥) → (y ≡ Broken → ⊥) → first_loud x y ≡ Broken → ⊥
loud_broken Broken y f g = f
loud_broken Quiet y f g = g
loud_broken (Forced c v) y f g = f

loud_forced : (P : Type 0) (c : ℕ) (v : Answer) (x y : Reading) → (x ≡ Forced c v → P) → (y ≡ Forced c v → P) → first_loud x y ≡ Forced c v → P
loud_forced P c v Broken y f g = f
loud_forced P c v Quiet y f g = g
loud_forced P c v (Forced d w) y f g = f

all_broken : (ms a : List Mark) → Grows ms a → (rs : List Rule) → AllKept a rs → rules_reading ms rs ≡ Broken → ⊥
all_broken ms a g [] k e = quiet_broken e
all_broken ms a g (r ∷ rs) k e =
    loud_broken (rule_reading ms r) (rules_reading ms rs) (way_broken ms a g r k.0 (way ms r)) (all_broken ms a g rs k.1) e

all_open : (ms : List Mark) (rs : List Rule) (c : ℕ) (v : Answer) → rules_reading ms rs ≡ Forced c v → mark_at ms c ≡ Open
all_open ms [] c v e = absurd (quiet_forced c v e)
all_open ms (r ∷ rs) c v e =
    loud_forced (mark_at ms c ≡ Open) c v (rule_reading ms r) (rules_reading ms rs) (way_open (way ms r) c v) (all_open ms rs c v) e

all_forced : (ms a : List Mark) → Grows ms a → ((c : ℕ) → mark_at a c ≡ Open → ⊥) → (rs : List Rule) → AllKept a rs → (c : ℕ) (v : Answer) → rules_reading ms rs ≡ Forced c v → mark_at a c ≡ mark_of v
all_forced ms a g f [] k c v e = absurd (quiet_forced c v e)
all_forced ms a g f (r ∷ rs) k c v e =
    loud_forced (mark_at a c ≡ mark_of v) c v (rule_reading ms r) (rules_reading ms rs) (way_forced ms a g r k.0 f (way ms r) c v) (all_forced ms a g f rs k.1 c v) e

all_settled : (ms : List Mark) → Settled ms → (rs : List Rule) → ((rules_reading ms rs ≡ Quiet) × AllKept ms rs) ⊎ ((rules_reading ms rs ≡ Broken) × (AllKept ms rs → ⊥))
all_settled ms s [] = inl (refl, tt)
all_settled ms s (r ∷ rs) = by (settled_by ms s r (way ms r)) (all_settled ms s rs)
  where
    first : {x : Reading} → rule_reading ms r ≡ x → rules_reading ms (r ∷ rs) ≡ first_loud x (rules_reading ms rs)
    first e = ap (λ (y : Reading). first_loud y (rules_reading ms rs)) e

    by : ((rule_reading ms r ≡ Quiet) × Kept ms r) ⊎ ((rule_reading ms r ≡ Broken) × (Kept ms r → ⊥)) → ((rules_reading ms rs ≡ Quiet) × AllKept ms rs) ⊎ ((rules_reading ms rs ≡ Broken) × (AllKept ms rs → ⊥)) → ((rules_reading ms (r ∷ rs) ≡ Quiet) × AllKept ms (r ∷ rs)) ⊎ ((rules_reading ms (r ∷ rs) ≡ Broken) × (AllKept ms (r ∷ rs) → ⊥))
    by (inl x) (inl y) = inl (first x.0 ∙ y.0, (x.1, y.1))
    by (inl x) (inr y) = inr (first x.0 ∙ y.0, λ k. y.1 k.1)
    by (inr x) y = inr (first x.0, λ k. x.1 k.0)

module _ (n : ℕ) (rs : List Rule) where
  forced_open : (ms : List Mark) (c : ℕ) (v : Answer) → length ms ≡ n → rules_reading ms rs ≡ Forced c v → (0 < c) × (c ≤ n) × (get_or ms (c - 1) Open ≡ Open)
  forced_open ms c v l e =
      let o = all_open ms rs c v e in
      let i = open_in ms c o in
      (i.0, omega (arith, i.1), mark_at_in ms c i.0 i.1 ∙ o)

  forced : (ms : List Mark) (c : ℕ) (v : Answer) → length ms ≡ n → rules_reading ms rs ≡ Forced c v → (a : List Mark) → Allowed n rs a → Extends ms a → get_or a (c - 1) Open ≡ mark_of v
  forced ms c v l e a h x =
      let i = open_in ms c (all_open ms rs c v e) in
      mark_at_in a c i.0 (omega (arith, i.1, x.0)) ∙ all_forced ms a (grows ms a x) (settled_at a h.1) rs h.2 c v e

  settled : (ms : List Mark) → length ms ≡ n → Settled ms → ((rules_reading ms rs ≡ Quiet) × Allowed n rs ms) ⊎ ((rules_reading ms rs ≡ Broken) × (Allowed n rs ms → ⊥))
  settled ms l s = elim (all_settled ms s rs) [ inl y ↦ inl (y.0, (l, s, y.1)) | inr y ↦ inr (y.0, λ h. y.1 h.2) ]

  pub rule_laws : n ≤ 4096 → Laws n (Allowed n rs) (λ ms. rules_reading ms rs)
  rule_laws small = record {
    small = small;
    sized = λ a h. (h.0, h.1);
    broken = λ ms l e a h x. all_broken ms a (grows ms a x) rs h.2 e;
    forced_open = forced_open;
    forced = forced;
    settled = settled;
  }
