-- The trail of a search, and how the work list holds it.
use Rattle.std.specs.Prelude.{◌≡◌, ℕ, zero, suc, ◌+◌, ◌-◌, ◌*◌, ◌/◌, ◌%◌, ◌<◌, ◌≤◌, Bool, true, false, cond, List, [], ◌∷◌, length, ◌==◌, slice_index, slice_index_or, slice_set}
use Rattle.book.specs.declared.Mark.{Mark}
use Rattle.book.specs.declared.Mark.TheVariants.{Open, No}
use Rattle.book.specs.Books.{open_mark}
use Rattle.solver.specs.declared.trail.Step.{Step}
use Rattle.solver.specs.Tree.{opens}

-- the entry that the work list has for a step: its choice doubled, and one more for a trial that is not yet turned
abbrev pub entry_of : Step → ℕ
entry_of s = 2 * s.choice + cond s.trial 1 0

-- the step that an entry of the work list stands for
abbrev pub step_of : ℕ → Step
step_of w = record { choice = w / 2; trial = (w % 2 == 1) }

-- a step once its trial is turned
abbrev pub once_turned : Step → Step
once_turned s = record { choice = s.choice; trial = false }

-- the place of a step's choice among the marks
abbrev pub place_of : Step → ℕ
place_of s = s.choice - 1

-- the trail that the first d entries of the work list stand for, the latest step first
abbrev pub trail_of : ℕ → List ℕ → List Step
trail_of zero w = []
trail_of (suc d) w = step_of (slice_index w d) ∷ trail_of d w

-- the choices of the trail are those that are marked, each once
abbrev pub Held : List Step → List Mark → Type 0
Held [] ms = opens ms ≡ length ms
Held (s ∷ st) ms = (0 < s.choice) × (s.choice ≤ length ms) × (open_mark (slice_index_or ms (place_of s) Open) ≡ false) × Held st (slice_set ms (place_of s) Open)

-- The trail taken back to its latest trial, which is turned. The trail and the marks before; the marks and the trail after, and
-- whether the trail has a trial.
abbrev pub Unwinds : List Step → List Mark → List Mark → List Step → Bool → Type 0
Unwinds [] ms ms' st' r = r ≡ false
Unwinds (s ∷ st) ms ms' st' r = cond s.trial ((r ≡ true) × (ms' ≡ slice_set ms (place_of s) No) × (st' ≡ once_turned s ∷ st)) (Unwinds st (slice_set ms (place_of s) Open) ms' st' r)
