use Rattle.std.proofs.Common.{◌≡◌, length}
use Rattle.box_text.specs.Cells.{past_spaces}
use Rattle.box_text.proofs.cells.past_spaces.Given as goal

abbrev pub invariant-loop-rest : goal.invariant-loop-rest
invariant-loop-rest l = past_spaces l.bytes ≡ past_spaces l.rest

abbrev pub decreases-loop-rest : goal.decreases-loop-rest
decreases-loop-rest l = length l.rest
