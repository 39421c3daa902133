use Rattle.std.proofs.Common.{Bool, List, length}
use Rattle.book.specs.declared.Mark.{Mark}
use Rattle.solver.specs.declared.trail.Step.{Step}
use Rattle.solver.specs.Steps.{Held, Unwinds}
use Rattle.solver.specs.Trails.{steps_of, SameLists}
use Rattle.solver.proofs.trail.Trail.turn.Given as goal

-- what turns the rest of the trail turns the whole
abbrev pub invariant-loop-step : goal.invariant-loop-step
invariant-loop-step l =
    SameLists l.initial.self l.self × Held (steps_of l.self) l.self.marks.now ×
    ((ms : List Mark) (st : List Step) (r : Bool) → Unwinds (steps_of l.self) l.self.marks.now ms st r → Unwinds (steps_of l.initial.self) l.initial.self.marks.now ms st r)

abbrev pub decreases-loop-step : goal.decreases-loop-step
decreases-loop-step l = length (steps_of l.self)
