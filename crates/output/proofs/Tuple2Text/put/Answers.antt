use Rattle.output.proofs.Pieces.{and_then, cut}
use Rattle.output.proofs.Tuple2Text.put.Goals as goal

pub returns-in_err-at-clause-text : goal.returns-in_err-at-clause-text
returns-in_err-at-clause-text g c = rw c.from_residual.ensures (cut _ _ c.in_err-at.ensures.text)

pub returns-clause-text : goal.returns-clause-text
returns-clause-text g c = and_then c.in_ok-at.ensures.text c.put-2.ensures.text
