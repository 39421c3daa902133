-- The tree of readings: how many trials a search needs at most, that no two searches of it differ, and that it depends on the
-- readings of n marks alone.
use Rattle.std.proofs.Common.{◌≡◌, ℕ, zero, suc, ◌+◌, ◌-◌, ◌*◌, ◌^◌, ◌<◌, ◌≤◌, Bool, true, false, cond, ltb, ◌⊎◌, List, [], ◌∷◌, length, set, Some, None, Option, sym, refl, ap, ◌∙◌, inl, inr, arith, length-set, pow_pos, pow_mono, le-ltb, lt-ltb}
use native.Mathlib.Nat.{pow-succ'}
use Rattle.book.specs.declared.Mark.{Mark}
use Rattle.book.specs.declared.Mark.TheVariants.{Yes, No}
use Rattle.book.specs.declared.Reading.{Reading}
use Rattle.book.specs.declared.Reading.TheVariants.{Broken, Quiet, Forced}
use Rattle.book.specs.Books.{mark_of, open_mark}
use Rattle.solver.specs.Tree.{first_open, opens, Explores, broken, settled, forced, yes_side, no_side}
use Rattle.solver.specs.Marks.{first_is, not_open, opens_set}

-- a mark that is not open adds to no count
less : (b c : Bool) (m : ℕ) → c ≡ false → cond c (suc m) m ≤ cond b (suc m) m
less true c m e = rw e (omega arith)
less false c m e = rw e (omega arith)

more : (b : Bool) (m n : ℕ) → m ≤ n → cond b (suc m) m ≤ cond b (suc n) n
more true m n h = omega arith
more false m n h = h

opens_less : (ms : List Mark) (i : ℕ) (m : Mark) → open_mark m ≡ false → opens (set ms i m) ≤ opens ms
opens_less [] i m e = omega arith
opens_less (x ∷ ms) zero m e = less (open_mark x) (open_mark m) (opens ms) e
opens_less (x ∷ ms) (suc i) m e = more (open_mark x) (opens (set ms i m)) (opens ms) (opens_less ms i m e)

-- a trial halves what is left
halved : (ms : List Mark) (m : Mark) → first_open ms < length ms → open_mark m ≡ false → 2 ^ opens ms ≡ 2 * 2 ^ opens (set ms (first_open ms) m)
halved ms m h e =
    let k : opens ms ≡ suc (opens (set ms (first_open ms) m)) = opens_set ms (first_open ms) m h (ap open_mark (first_is ms h)) e in
    rw k (pow-succ' 2 (opens (set ms (first_open ms) m)))

module _ (reads : List Mark → Reading) where
  pub few : {ms : List Mark} {t : ℕ} {o : Option (List Mark)} → Explores reads ms t o → t + 1 ≤ 2 ^ opens ms
  few (broken ms e) = pow_pos (opens ms)
  few (settled ms e h) = pow_pos (opens ms)
  few (forced ms c v t o e x) =
      let le : 2 ^ opens (set ms (c - 1) (mark_of v)) ≤ 2 ^ opens ms = pow_mono (opens_less ms (c - 1) (mark_of v) (not_open v)) in
      let y = few x in
      omega arith
  few (yes_side ms t a e h x) =
      let y = few x in
      let d = halved ms Yes h refl in
      omega arith
  few (no_side ms t u o e h x y) =
      let p = few x in
      let q = few y in
      let d = halved ms Yes h refl in
      let f = halved ms No h refl in
      omega arith

  -- what a search comes to from marks with some open that are read quiet
  abbrev Tried : List Mark → ℕ → Option (List Mark) → Type 0
  Tried ms u p =
      ((t : ℕ) × (a : List Mark) × Explores reads (set ms (first_open ms) Yes) t (Some a) × (u ≡ 1 + t) × (p ≡ Some a)) ⊎
      ((t : ℕ) × (s : ℕ) × Explores reads (set ms (first_open ms) Yes) t None × Explores reads (set ms (first_open ms) No) s p × (u ≡ 1 + (t + s)))

  -- .. and from any marks, by their reading and by whether some are open
  abbrev Next : List Mark → ℕ → Option (List Mark) → Reading → Bool → Type 0
  Next ms u p Broken b = (u ≡ 0) × (p ≡ None)
  Next ms u p (Forced c v) b = Explores reads (set ms (c - 1) (mark_of v)) u p
  Next ms u p Quiet true = Tried ms u p
  Next ms u p Quiet false = (u ≡ 0) × (p ≡ Some ms)

  next : {ms : List Mark} {u : ℕ} {p : Option (List Mark)} → Explores reads ms u p → Next ms u p (reads ms) (ltb (first_open ms) (length ms))
  next (broken ms e) = rw e (refl, refl)
  next (settled ms e h) = rw (e, le-ltb (first_open ms) (length ms) h) (refl, refl)
  next (forced ms c v t o e x) = rw e x
  next (yes_side ms t a e h x) = rw (e, lt-ltb (first_open ms) (length ms) h) (inl (t, a, x, refl, refl))
  next (no_side ms t u o e h x y) = rw (e, lt-ltb (first_open ms) (length ms) h) (inr (t, u, x, y, refl))

  next_at : (ms : List Mark) (u : ℕ) (p : Option (List Mark)) (r : Reading) (b : Bool) → reads ms ≡ r → ltb (first_open ms) (length ms) ≡ b → Explores reads ms u p → Next ms u p r b
  next_at ms u p r b e h y = rw (e, h) at (next y)

  pub single : {ms : List Mark} {t u : ℕ} {o p : Option (List Mark)} → Explores reads ms t o → Explores reads ms u p → (t ≡ u) × (o ≡ p)
  single {ms} {t} {u} {o} {p} (broken _ e) y = let k = next_at ms u p Broken _ e refl y in (sym k.0, sym k.1)
  single {ms} {t} {u} {o} {p} (settled _ e h) y = let k = next_at ms u p Quiet false e (le-ltb (first_open ms) (length ms) h) y in (sym k.0, sym k.1)
  single {ms} {t} {u} {o} {p} (forced _ c v _ _ e x) y = single x (next_at ms u p (Forced c v) _ e refl y)
  single {ms} {t} {u} {o} {p} (yes_side _ t₀ a e h x) y =
      elim (next_at ms u p Quiet true e (lt-ltb (first_open ms) (length ms) h) y) [
        | inl k ↦ (let i = single x k.2 in (omega (arith, i.0, k.3), i.1 ∙ sym k.4))
        | inr k ↦ absurd (let i : Some a ≡ None = (single x k.2).1 in cc)
      ]
  single {ms} {t} {u} {o} {p} (no_side _ t₀ u₀ _ e h x z) y =
      elim (next_at ms u p Quiet true e (lt-ltb (first_open ms) (length ms) h) y) [
        | inl k ↦ absurd (let i : None ≡ Some k.1 = (single x k.2).1 in cc)
        | inr k ↦ (let i = single x k.2 in let j = single z k.3 in (omega (arith, i.0, j.0, k.4), j.1))
      ]

-- readings that agree on n marks have one tree
module _ (n : ℕ) (reads reads₂ : List Mark → Reading) (agree : (ms : List Mark) → length ms ≡ n → reads₂ ms ≡ reads ms) where
  pub carried : {ms : List Mark} {t : ℕ} {o : Option (List Mark)} → length ms ≡ n → Explores reads₂ ms t o → Explores reads ms t o
  carried l (broken ms e) = broken ms (sym (agree ms l) ∙ e)
  carried l (settled ms e h) = settled ms (sym (agree ms l) ∙ e) h
  carried l (forced ms c v t o e x) = forced ms c v t o (sym (agree ms l) ∙ e) (carried (length-set ms (c - 1) (mark_of v) ∙ l) x)
  carried l (yes_side ms t a e h x) = yes_side ms t a (sym (agree ms l) ∙ e) h (carried (length-set ms (first_open ms) Yes ∙ l) x)
  carried l (no_side ms t u o e h x y) =
      no_side ms t u o (sym (agree ms l) ∙ e) h (carried (length-set ms (first_open ms) Yes ∙ l) x) (carried (length-set ms (first_open ms) No ∙ l) y)
