use Rattle.std.proofs.Common.{length}
use Rattle.scan.proofs.Steps.{PastComments}
use Rattle.scan.proofs.scanner.reading.line_start.Given as goal

abbrev pub invariant-loop-first : goal.invariant-loop-first
invariant-loop-first l = PastComments l.bytes l.rest

abbrev pub decreases-loop-first : goal.decreases-loop-first
decreases-loop-first l = length l.rest
