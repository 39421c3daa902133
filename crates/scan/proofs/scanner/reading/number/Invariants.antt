use Rattle.std.proofs.Common.{length}
use Rattle.scan.proofs.Steps.{PastDigits}
use Rattle.scan.proofs.scanner.reading.number.Given as goal

abbrev pub invariant-loop-rest : goal.invariant-loop-rest
invariant-loop-rest l = PastDigits l.bytes l.rest l.value

abbrev pub decreases-loop-rest : goal.decreases-loop-rest
decreases-loop-rest l = length l.rest
