-- The trail as the list of its steps, and what its methods leave.
use Rattle.std.specs.Prelude.{◌≡◌, List, [], ◌∷◌, Some, None, Option, slice_set}
use Rattle.book.specs.declared.Mark.TheVariants.{Open}
use Rattle.solver.specs.declared.trail.Step.{Step}
use Rattle.solver.specs.declared.trail.Trail.{Trail}
use Rattle.solver.specs.Steps.{place_of, trail_of}

-- the steps of a trail, the latest first
abbrev pub steps_of : Trail → List Step
steps_of t = trail_of t.depth t.work.now

-- both trails are kept in the same lists of the caller
abbrev pub SameLists : Trail → Trail → Type 0
SameLists t t' = (t'.marks.ghost_name ≡ t.marks.ghost_name) × (t'.work.ghost_name ≡ t.work.ghost_name)

-- the latest step taken back, if there is one
abbrev pub Popped : Trail → Trail → Option Step → Type 0
Popped t t' None = (steps_of t ≡ []) × (t'.marks.now ≡ t.marks.now) × (steps_of t' ≡ [])
Popped t t' (Some s) = (steps_of t ≡ s ∷ steps_of t') × (t'.marks.now ≡ slice_set t.marks.now (place_of s) Open)
