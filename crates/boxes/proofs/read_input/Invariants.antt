use Rattle.std.proofs.Common.{◌≡◌, length}
use Rattle.boxes.proofs.read_input.Given as goal

abbrev pub invariant-loop : goal.invariant-loop
invariant-loop l = length l.block ≡ 65536
