use Rattle.solver.specs.Trails.{SameLists}
use Rattle.solver.proofs.State.{State, left}
use Rattle.solver.proofs.run.Given as goal

abbrev pub invariant-loop-reading : goal.invariant-loop-reading
invariant-loop-reading g l =
    SameLists l.initial.trail l.trail ×
    State (g.B.Book.reads l.book) (g.B.Book.size l.book) l.allowance l.trail.depth l.trials l.trail.marks.now l.trail.work.now

abbrev pub decreases-loop-reading : goal.decreases-loop-reading
decreases-loop-reading g l = left (g.B.Book.reads l.book) l.trail.depth l.trail.marks.now l.trail.work.now
