use Rattle.std.proofs.Common.{◌≡◌, length, drop}
use Rattle.models.specs.Arrangements.{mark_all, arranged}
use Rattle.models.proofs.arrange.Given as goal

abbrev pub invariant-loop-choice : goal.invariant-loop-choice
invariant-loop-choice l = mark_all (drop l.choice-index l.yes) l.marks ≡ arranged (length l.initial.marks) l.yes
