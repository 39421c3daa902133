-- Pins read as a lawful book that allows what obeys them.
use Rattle.std.specs.Prelude.{◌≡◌, ℕ, zero, suc, ◌+◌, ◌-◌, ◌<◌, ◌≤◌, Bool, true, false, cond, ◌⊎◌, List, [], ◌∷◌, length, Some, None, Option, ◌≢◌, slice_index_or, refl}
use Rattle.std.proofs.Common.{sym, ◌∙◌, subst, inl, inr, add-zero, arith}
use Rattle.std.proofs.lemmas.Bool.{true≢false, false≢true}
use Rattle.book.specs.declared.Answer.{Answer}
use Rattle.book.specs.declared.Answer.TheVariants.{Yes as AnswerYes, No as AnswerNo}
use Rattle.book.specs.declared.Mark.{Mark}
use Rattle.book.specs.declared.Mark.TheVariants.{Open, Yes, No}
use Rattle.book.specs.declared.Reading.{Reading}
use Rattle.book.specs.declared.Reading.TheVariants.{Broken, Quiet, Forced}
use Rattle.book.specs.Books.{mark_of, Laws, Extends, Settled}
use Rattle.solver.specs.Marks.{never_open}
use Rattle.standing.specs.Readings.{opposed, defied, pressed, forced_or, lowest_pin, pins_reading, Obeys}

-- a pin and a mark with the other answer
abbrev Against : Mark → Mark → Type 0
Against p m = (v : Answer) × (w : Answer) × (p ≡ mark_of v) × (m ≡ mark_of w) × (mark_of v ≢ mark_of w)

pub apart : Yes ≡ No → ⊥
apart e = let z : ◌≡◌ {A = ℕ} 0 1 = cc in omega arith

against : (p m : Mark) → opposed p m ≡ true → Against p m
against Open m e = absurd (false≢true e)
against Yes Open e = absurd (false≢true e)
against Yes Yes e = absurd (false≢true e)
against Yes No e = (AnswerYes, AnswerNo, refl, refl, apart)
against No Open e = absurd (false≢true e)
against No Yes e = (AnswerNo, AnswerYes, refl, refl, λ q. apart (sym q))
against No No e = absurd (false≢true e)

-- a pin that is not opposed by an answer has it
agreed : (v : Answer) (m : Mark) → opposed (mark_of v) m ≡ false → (m ≢ Open) → m ≡ mark_of v
agreed v Open e h = absurd (h refl)
agreed AnswerYes Yes e h = refl
agreed AnswerYes No e h = absurd (true≢false e)
agreed AnswerNo Yes e h = absurd (true≢false e)
agreed AnswerNo No e h = refl

-- where some pinned choice has the other answer, and where none has
abbrev Defied : Bool → List Mark → List Mark → Type 0
Defied true ps ms = (k : ℕ) × (k < length ms) × Against (slice_index_or ps k Open) (slice_index_or ms k Open)
Defied false ps ms = (k : ℕ) → k < length ms → opposed (slice_index_or ps k Open) (slice_index_or ms k Open) ≡ false

defied_is : (ps ms : List Mark) → Defied (defied ps ms) ps ms
defied_is [] ms = λ k h. refl
defied_is (p ∷ ps) [] = λ k h. absurd (omega arith)
defied_is (p ∷ ps) (m ∷ ms) = head (opposed p m) refl (defied ps ms) (defied_is ps ms)
  where
    head : (b : Bool) → opposed p m ≡ b → (c : Bool) → Defied c ps ms → Defied (cond b true c) (p ∷ ps) (m ∷ ms)
    head true e c d = (0, omega arith, against p m e)
    head false e true d = (suc d.0, omega (arith, d.1), d.2)
    head false e false d = at
      where
        at : (k : ℕ) → k < suc (length ms) → opposed (slice_index_or (p ∷ ps) k Open) (slice_index_or (m ∷ ms) k Open) ≡ false
        at zero h = e
        at (suc k) h = d k (omega arith)

-- the lowest pinned choice that is open, from choice c on, or that there is none
data Lowest (c : ℕ) (ps ms : List Mark) : Reading → Type 0 where
  low : (k : ℕ) (v : Answer) → k < length ms → slice_index_or ps k Open ≡ mark_of v → slice_index_or ms k Open ≡ Open → Lowest c ps ms (Forced (c + k) v)
  none : ((k : ℕ) (v : Answer) → k < length ms → slice_index_or ps k Open ≡ mark_of v → slice_index_or ms k Open ≢ Open) → Lowest c ps ms Quiet

-- what a pin forces on a mark
abbrev Pressed : Option Answer → Mark → Mark → Type 0
Pressed (Some v) p m = (p ≡ mark_of v) × (m ≡ Open)
Pressed None p m = (v : Answer) → p ≡ mark_of v → m ≢ Open

pressed_is : (p m : Mark) → Pressed (pressed p m) p m
pressed_is Open m = λ v e o. never_open v (sym e)
pressed_is Yes Open = (refl, refl)
pressed_is Yes Yes = λ v e o. never_open AnswerYes o
pressed_is Yes No = λ v e o. never_open AnswerNo o
pressed_is No Open = (refl, refl)
pressed_is No Yes = λ v e o. never_open AnswerYes o
pressed_is No No = λ v e o. never_open AnswerNo o

lowest_is : (c : ℕ) (ps ms : List Mark) → Lowest c ps ms (lowest_pin c ps ms)
lowest_is c [] ms = none (λ k v h e o. never_open v (sym e))
lowest_is c (p ∷ ps) [] = none (λ k v h e o. absurd (omega arith))
lowest_is c (p ∷ ps) (m ∷ ms) = head (pressed p m) (pressed_is p m) (lowest_is (suc c) ps ms)
  where
    head : (o : Option Answer) → Pressed o p m → {r : Reading} → Lowest (suc c) ps ms r → Lowest c (p ∷ ps) (m ∷ ms) (forced_or c o r)
    head (Some v) q l = subst (λ (d : ℕ). Lowest c (p ∷ ps) (m ∷ ms) (Forced d v)) (add-zero c) (low 0 v (omega arith) q.0 q.1)
    head None q (low k v h e o) = let j : c + suc k ≡ suc c + k = omega arith in subst (λ (d : ℕ). Lowest c (p ∷ ps) (m ∷ ms) (Forced d v)) j (low (suc k) v (omega arith) e o)
    head None q (none f) = none at
      where
        at : (k : ℕ) (v : Answer) → k < suc (length ms) → slice_index_or (p ∷ ps) k Open ≡ mark_of v → slice_index_or (m ∷ ms) k Open ≢ Open
        at zero v h e o = q v e o
        at (suc k) v h e o = f k v (omega arith) e o

-- the ways in which pins come to their reading
pub data Way (ps ms : List Mark) : Reading → Type 0 where
  against_one : Defied true ps ms → Way ps ms Broken
  orders : (k : ℕ) (v : Answer) → k < length ms → slice_index_or ps k Open ≡ mark_of v → slice_index_or ms k Open ≡ Open → Way ps ms (Forced (1 + k) v)
  silent : Defied false ps ms → ((k : ℕ) (v : Answer) → k < length ms → slice_index_or ps k Open ≡ mark_of v → slice_index_or ms k Open ≢ Open) → Way ps ms Quiet

pub way : (ps ms : List Mark) → Way ps ms (pins_reading ps ms)
way ps ms = by (defied ps ms) (defied_is ps ms) (lowest_is 1 ps ms)
  where
    by : (b : Bool) → Defied b ps ms → {r : Reading} → Lowest 1 ps ms r → Way ps ms (cond b Broken r)
    by true d l = against_one d
    by false d (low k v h e o) = orders k v h e o
    by false d (none f) = silent d f

module _ (n : ℕ) (ps : List Mark) where
  abbrev Allowed : List Mark → Type 0
  Allowed a = (length a ≡ n) × Settled a × Obeys ps a

  -- what obeys the pins has no answer against them
  never_defied : (ms a : List Mark) → Defied true ps ms → Obeys ps a → Extends ms a → ⊥
  never_defied ms a d ob x = let g = d.2 in g.4 (sym (ob d.0 g.0 (omega (arith, d.1, x.0)) g.2) ∙ x.1 d.0 g.1 g.3)

  way_broken : {ms : List Mark} {r : Reading} → Way ps ms r → r ≡ Broken → (a : List Mark) → Allowed a → Extends ms a → ⊥
  way_broken {ms} (against_one d) q a h x = never_defied ms a d h.2 x
  way_broken (orders k v l e o) q a h x = let z : ◌≡◌ {A = ℕ} 0 1 = cc in omega arith
  way_broken (silent d f) q a h x = let z : ◌≡◌ {A = ℕ} 0 1 = cc in omega arith

  way_open : {ms : List Mark} {r : Reading} → Way ps ms r → length ms ≡ n → (c : ℕ) (v : Answer) → r ≡ Forced c v → (0 < c) × (c ≤ n) × (slice_index_or ms (c - 1) Open ≡ Open)
  way_open (against_one d) l c v q = absurd (let z : ◌≡◌ {A = ℕ} 0 1 = cc in omega arith)
  way_open (orders k w lt e o) l c v q =
      let ck : 1 + k ≡ c = cc in
      let at : c - 1 ≡ k = omega arith in
      (omega arith, omega arith, rw at o)
  way_open (silent d f) l c v q = absurd (let z : ◌≡◌ {A = ℕ} 0 1 = cc in omega arith)

  way_forced : {ms : List Mark} {r : Reading} → Way ps ms r → (c : ℕ) (v : Answer) → r ≡ Forced c v → (a : List Mark) → Allowed a → Extends ms a → slice_index_or a (c - 1) Open ≡ mark_of v
  way_forced (against_one d) c v q a h x = absurd (let z : ◌≡◌ {A = ℕ} 0 1 = cc in omega arith)
  way_forced (orders k w lt e o) c v q a h x =
      let ck : 1 + k ≡ c = cc in
      let wv : w ≡ v = cc in
      let at : c - 1 ≡ k = omega arith in
      rw (at, ← wv) (h.2 k w (omega (arith, x.0)) e)
  way_forced (silent d f) c v q a h x = absurd (let z : ◌≡◌ {A = ℕ} 0 1 = cc in omega arith)

  way_settled : {ms : List Mark} {r : Reading} → Way ps ms r → length ms ≡ n → Settled ms → ((r ≡ Quiet) × Allowed ms) ⊎ ((r ≡ Broken) × (Allowed ms → ⊥))
  way_settled {ms} (against_one d) l s = inr (refl, λ h. never_defied ms ms d h.2 (refl, λ k v q. q))
  way_settled (orders k v lt e o) l s = absurd (s k lt o)
  way_settled {ms} (silent d f) l s = inl (refl, (l, s, λ k v h e. agreed v (slice_index_or ms k Open) (rw e at (d k h)) (s k h)))

  pub pin_laws : n ≤ 4096 → Laws n Allowed (pins_reading ps)
  pin_laws small =
      record {
        small = small;
        sized = λ a h. (h.0, h.1);
        broken = λ ms l e a h x. way_broken (way ps ms) e a h x;
        forced_open = λ ms c v l e. way_open (way ps ms) l c v e;
        forced = λ ms c v l e a h x. way_forced (way ps ms) c v e a h x;
        settled = λ ms l s. way_settled (way ps ms) l s;
      }
