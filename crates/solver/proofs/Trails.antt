-- The trail in the work list.
use Rattle.std.specs.Prelude.{◌≡◌, ℕ, zero, suc, ◌+◌, ◌*◌, ◌/◌, ◌%◌, ◌<◌, ◌≤◌, Bool, true, false, ◌≢◌, List, [], ◌∷◌, length, nat_eq, slice_index_or, slice_set, refl}
use Rattle.std.proofs.Common.{ap, add-one, arith, eq-eqb, ne_eqb, length-set, get_or-set_other, get_or-set_same}
use Rattle.book.specs.declared.Mark.{Mark}
use Rattle.book.specs.declared.Mark.TheVariants.{Open, No}
use Rattle.book.specs.Books.{open_mark}
use Rattle.solver.specs.declared.trail.Step.{Step}
use Rattle.solver.specs.Steps.{entry_of, step_of, place_of, once_turned, trail_of, Held, Unwinds}
use Rattle.solver.specs.Tree.{opens}
use Rattle.solver.specs.Marks.{opens_unset, set_back}

abbrev pub step : ℕ → Bool → Step
step c t = record { choice = c; trial = t }

entry_at : (c : ℕ) (t : Bool) → step_of (entry_of (step c t)) ≡ step c t
entry_at c true =
    let h : (2 * c + 1) / 2 ≡ c = omega arith in
    let e : nat_eq ((2 * c + 1) % 2) 1 ≡ true = eq-eqb ((2 * c + 1) % 2) 1 (omega arith) in
    rw (h, e)
entry_at c false =
    let h : (2 * c + 0) / 2 ≡ c = omega arith in
    let e : nat_eq ((2 * c + 0) % 2) 1 ≡ false = ne_eqb ((2 * c + 0) % 2) 1 (λ q. omega arith) in
    rw (h, e)

-- an entry gives its step back
pub entry : (s : Step) → step_of (entry_of s) ≡ s
entry s = entry_at s.choice s.trial

pub length_trail : (d : ℕ) (w : List ℕ) → length (trail_of d w) ≡ d
length_trail zero w = refl
length_trail (suc d) w = ap suc (length_trail d w)

-- a write at or past d leaves the trail of d
trail_set : (d : ℕ) (w : List ℕ) (k v : ℕ) → d ≤ k → trail_of d (slice_set w k v) ≡ trail_of d w
trail_set zero w k v h = refl
trail_set (suc d) w k v h =
    let ne : d ≢ k = λ q. omega arith in
    let le : d ≤ k = omega arith in
    rw (get_or-set_other w k d v 0 ne, trail_set d w k v le)

pub trail_push : (d : ℕ) (w : List ℕ) (s : Step) → d < length w → trail_of (d + 1) (slice_set w d (entry_of s)) ≡ s ∷ trail_of d w
trail_push d w s h =
    let le : d ≤ d = omega arith in
    rw (add-one d, get_or-set_same w d (entry_of s) 0 h, entry s, trail_set d w d (entry_of s) le)

pub held_count : (st : List Step) (ms : List Mark) → Held st ms → opens ms + length st ≡ length ms
held_count [] ms h = omega (arith, h)
held_count (s ∷ st) ms h =
    let i = held_count st (slice_set ms (place_of s) Open) h.3 in
    let j = opens_unset ms (place_of s) h.2 in
    let k = length-set ms (place_of s) Open in
    omega arith

-- the trail with one more step
pub held_push : (st : List Step) (s : Step) (ms : List Mark) (m : Mark) → 0 < s.choice → s.choice ≤ length ms → slice_index_or ms (place_of s) Open ≡ Open → open_mark m ≡ false → Held st ms → Held (s ∷ st) (slice_set ms (place_of s) m)
held_push st s ms m p q o f k =
    let lt : place_of s < length ms = omega arith in
    let here : open_mark (slice_index_or (slice_set ms (place_of s) m) (place_of s) Open) ≡ false = rw (get_or-set_same ms (place_of s) m Open lt) f in
    (p, omega (arith, length-set ms (place_of s) m), here, rw (set_back ms (place_of s) m o) k)

pub unwind_here : (s : Step) (st st' : List Step) (ms ms' : List Mark) → s.trial ≡ true → ms' ≡ slice_set ms (place_of s) No → st' ≡ once_turned s ∷ st → Unwinds (s ∷ st) ms ms' st' true
unwind_here s st st' ms ms' o m k = rw o (refl, m, k)

-- what is asked of a step that goes back on the trail
pub room_again : (s : Step) (d : ℕ) (w : List ℕ) (ms ms' : List Mark) → Held (s ∷ trail_of d w) ms → ms' ≡ slice_set ms (place_of s) Open → (0 < s.choice) × (s.choice ≤ length ms') × (d < length ms')
room_again s d w ms ms' h e =
    let k = held_count (s ∷ trail_of d w) ms h in
    let l = length_trail d w in
    let j = length-set ms (place_of s) Open in
    rw e (h.0, omega (arith, h.1), omega arith)
