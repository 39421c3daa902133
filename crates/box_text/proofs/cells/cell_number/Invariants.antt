use Rattle.std.proofs.Common.{◌≡◌, length}
use Rattle.box_text.specs.Cells.{digits_on, in_range, cell_number}
use Rattle.box_text.proofs.cells.cell_number.Given as goal

abbrev pub invariant-loop-rest : goal.invariant-loop-rest
invariant-loop-rest l = cell_number l.cell ≡ in_range (digits_on l.value l.rest)

abbrev pub decreases-loop-rest : goal.decreases-loop-rest
decreases-loop-rest l = length l.rest
