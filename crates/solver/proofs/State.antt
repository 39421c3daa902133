-- The state of the loop: how it goes with each reading.
use Rattle.std.proofs.Common.{◌≡◌, ℕ, ◌+◌, ◌-◌, ◌<◌, ◌≤◌, true, false, List, ◌∷◌, length, get_or, set, replicate, Some, None, sym, refl, ap, ◌∙◌, arith, length-set}
use lib.ListN.{length-replicate}
use Rattle.book.specs.declared.Answer.{Answer}
use Rattle.book.specs.declared.Mark.{Mark}
use Rattle.book.specs.declared.Mark.TheVariants.{Open, Yes}
use Rattle.book.specs.declared.Reading.{Reading}
use Rattle.book.specs.declared.Reading.TheVariants.{Broken, Quiet, Forced}
use Rattle.book.specs.Books.{mark_of, open_mark, Laws}
use Rattle.solver.specs.declared.trail.Step.{Step}
use Rattle.solver.specs.Steps.{place_of, trail_of, Held, Unwinds}
use Rattle.solver.specs.Tree.{first_open, opens}
use Rattle.solver.specs.Marks.{opens_set, opens_new, first_is, not_open}
use Rattle.solver.proofs.Runs.{Run, tick, explore, rest, forced_rest, trial_rest, found_rest, broken_rest, turned_rest, none_rest}
use Rattle.solver.proofs.Trails.{step, held_push, held_count, length_trail}

-- the whole search
abbrev pub whole : (List Mark → Reading) → ℕ → Run
whole reads n = explore reads n (replicate n Open)

-- With a trail of d steps in the work list and t trials counted: what was counted and what is left make up the whole search.
pub record State (reads : List Mark → Reading) (n a d t : ℕ) (ms : List Mark) (w : List ℕ) : Type 0 where
  pub marks_long : length ms ≡ n
  pub work_long : length w ≡ n
  pub held : Held (trail_of d w) ms
  pub within : t ≤ a
  pub trials_left : (whole reads n).trials ≡ t + (rest reads (trail_of d w) ms).trials
  pub found_left : (whole reads n).found ≡ (rest reads (trail_of d w) ms).found

-- how many readings are left
abbrev pub left : (List Mark → Reading) → ℕ → List Mark → List ℕ → ℕ
left reads d ms w = (rest reads (trail_of d w) ms).readings

module _ (reads : List Mark → Reading) (n a : ℕ) where
  pub state_start : (ms : List Mark) (w : List ℕ) → ms ≡ replicate n Open → length w ≡ n → State reads n a 0 0 ms w
  state_start ms w e l =
      let k : opens (replicate n Open) ≡ n = opens_new n in
      let j : length (replicate n Open) ≡ n = length-replicate n Open in
      rw e (record { marks_long = j; work_long = l; held = k ∙ sym j; within = omega arith; trials_left = rw k (omega arith); found_left = rw k })

  -- with a mark open, the trail is shorter than n
  deep : (d t : ℕ) (ms : List Mark) (w : List ℕ) (i : ℕ) → State reads n a d t ms w → i < length ms → get_or ms i Open ≡ Open → d < n
  deep d t ms w i s h o =
      let k = held_count (trail_of d w) ms s.held in
      let l = length_trail d w in
      let p = opens_set ms i Yes h (ap open_mark o) refl in
      omega (arith, s.marks_long)

  -- what a step asks of the trail
  abbrev Room : ℕ → ℕ → List Mark → Type 0
  Room d c ms = (0 < c) × (c ≤ length ms) × (d < length ms)

  pub forced_room : (allows : List Mark → Type 0) → Laws n allows reads → (d t : ℕ) (ms : List Mark) (w : List ℕ) (c : ℕ) (v : Answer) → State reads n a d t ms w → reads ms ≡ Forced c v → Room d c ms
  forced_room allows laws d t ms w c v s e =
      let f = laws.forced_open ms c v s.marks_long e in
      let k = deep d t ms w (c - 1) s (omega (arith, s.marks_long, f.0, f.1)) f.2 in
      (f.0, omega (arith, s.marks_long, f.1), omega (arith, s.marks_long))

  pub trial_room : (d t : ℕ) (ms : List Mark) (w : List ℕ) (c : ℕ) → State reads n a d t ms w → c ≡ first_open ms + 1 → c ≤ length ms → Room d c ms
  trial_room d t ms w c s fc h =
      let k = deep d t ms w (first_open ms) s (omega arith) (first_is ms (omega arith)) in
      (omega arith, h, omega (arith, s.marks_long))

  -- the loop goes on with what is left, which is less by a reading
  abbrev Goes : ℕ → List Mark → List ℕ → ℕ → ℕ → List Mark → List ℕ → Type 0
  Goes d ms w d' t' ms' w' = State reads n a d' t' ms' w' × (left reads d' ms' w' < left reads d ms w)

  goes_on : (d t k d' t' : ℕ) (ms ms' : List Mark) (w w' : List ℕ) → State reads n a d t ms w → t' ≡ t + k → t' ≤ a → length ms' ≡ length ms → length w' ≡ length ms' → Held (trail_of d' w') ms' →
      rest reads (trail_of d w) ms ≡ tick k (rest reads (trail_of d' w') ms') → Goes d ms w d' t' ms' w'
  goes_on d t k d' t' ms ms' w w' s tk q lm lw h z =
      let zt = ap (λ (r : Run). r.trials) z in
      let zr = ap (λ (r : Run). r.readings) z in
      let zf = ap (λ (r : Run). r.found) z in
      (record { marks_long = lm ∙ s.marks_long; work_long = lw ∙ lm ∙ s.marks_long; held = h; within = q; trials_left = omega (arith, s.trials_left, zt); found_left = s.found_left ∙ zf }, omega (arith, zr))

  -- .. by a step
  goes_by : (d t k d' t' : ℕ) (ms ms' : List Mark) (w w' : List ℕ) (x : Step) (m : Mark) → State reads n a d t ms w → t' ≡ t + k → t' ≤ a → 0 < x.choice → x.choice ≤ length ms → get_or ms (place_of x) Open ≡ Open → open_mark m ≡ false →
      ms' ≡ set ms (place_of x) m → length w' ≡ length ms' → trail_of d' w' ≡ x ∷ trail_of d w → rest reads (trail_of d w) ms ≡ tick k (rest reads (x ∷ trail_of d w) (set ms (place_of x) m)) → Goes d ms w d' t' ms' w'
  goes_by d t k d' t' ms ms' w w' x m s tk q p l o f em lw e z =
      rw em (goes_on d t k d' t' ms (set ms (place_of x) m) w w' s tk q (length-set ms (place_of x) m) (rw em at lw) (rw e (held_push (trail_of d w) x ms m p l o f s.held)) (rw e z))

  pub state_forced : (allows : List Mark → Type 0) → Laws n allows reads → (d t d' : ℕ) (ms ms' : List Mark) (w w' : List ℕ) (c : ℕ) (v : Answer) → State reads n a d t ms w → reads ms ≡ Forced c v →
      ms' ≡ set ms (c - 1) (mark_of v) → length w' ≡ length ms' → trail_of d' w' ≡ step c false ∷ trail_of d w → Goes d ms w d' t ms' w'
  state_forced allows laws d t d' ms ms' w w' c v s e em lw ew =
      let f = laws.forced_open ms c v s.marks_long e in
      let le : c ≤ length ms = omega (arith, s.marks_long, f.1) in
      goes_by d t 0 d' t ms ms' w w' (step c false) (mark_of v) s (omega arith) s.within f.0 le f.2 (not_open v) em lw ew (forced_rest reads (trail_of d w) ms c v f.0 le f.2 e)

  pub state_trial : (d t d' : ℕ) (ms ms' : List Mark) (w w' : List ℕ) (c : ℕ) → State reads n a d t ms w → reads ms ≡ Quiet → c ≡ first_open ms + 1 → c ≤ length ms → (t ≡ a → ⊥) →
      ms' ≡ set ms (c - 1) Yes → length w' ≡ length ms' → trail_of d' w' ≡ step c true ∷ trail_of d w → Goes d ms w d' (t + 1) ms' w'
  state_trial d t d' ms ms' w w' c s e fc h ne em lw ew =
      let fi : c - 1 ≡ first_open ms = omega arith in
      let o : get_or ms (c - 1) Open ≡ Open = rw fi (first_is ms (omega arith)) in
      goes_by d t 1 d' (t + 1) ms ms' w w' (step c true) Yes s refl (omega (arith, s.within)) (omega arith) h o refl em lw ew (trial_rest reads (trail_of d w) ms c fc h e)

  pub state_turned : (d t d' : ℕ) (ms ms' : List Mark) (w w' : List ℕ) → State reads n a d t ms w → reads ms ≡ Broken → length w' ≡ length ms' → Unwinds (trail_of d w) ms ms' (trail_of d' w') true → Goes d ms w d' t ms' w'
  state_turned d t d' ms ms' w w' s e l u =
      let q = turned_rest reads (trail_of d w) (trail_of d' w') ms ms' s.held u in
      goes_on d t 0 d' t ms ms' w w' s (omega arith) s.within q.2 l q.1 (broken_rest reads (trail_of d w) ms e ∙ ap (tick 0) q.0)

  -- the same state, by an equal count
  pub state_counted : (d t t' : ℕ) (ms : List Mark) (w : List ℕ) → State reads n a d t ms w → t' ≡ t → State reads n a d t' ms w
  state_counted d t t' ms w s e = rw e s

  pub state_found : (d t : ℕ) (ms : List Mark) (w : List ℕ) → State reads n a d t ms w → reads ms ≡ Quiet → length ms ≤ first_open ms → ((whole reads n).found ≡ Some ms) × (t ≡ (whole reads n).trials)
  state_found d t ms w s e h =
      let z = found_rest reads (trail_of d w) ms h e in
      (s.found_left ∙ ap (λ (r : Run). r.found) z, omega (arith, s.trials_left, ap (λ (r : Run). r.trials) z))

  pub state_spent : (d t : ℕ) (ms : List Mark) (w : List ℕ) (c : ℕ) → State reads n a d t ms w → reads ms ≡ Quiet → c ≡ first_open ms + 1 → c ≤ length ms → t < (whole reads n).trials
  state_spent d t ms w c s e fc h =
      let z = trial_rest reads (trail_of d w) ms c fc h e in
      omega (arith, s.trials_left, ap (λ (r : Run). r.trials) z)

  pub state_none : (d t : ℕ) (ms ms' : List Mark) (w : List ℕ) (st' : List Step) → State reads n a d t ms w → reads ms ≡ Broken → Unwinds (trail_of d w) ms ms' st' false → ((whole reads n).found ≡ None) × (t ≡ (whole reads n).trials)
  state_none d t ms ms' w st' s e u =
      let z = broken_rest reads (trail_of d w) ms e ∙ ap (tick 0) (none_rest reads (trail_of d w) st' ms ms' (opens ms) u) in
      (s.found_left ∙ ap (λ (r : Run). r.found) z, omega (arith, s.trials_left, ap (λ (r : Run). r.trials) z))
