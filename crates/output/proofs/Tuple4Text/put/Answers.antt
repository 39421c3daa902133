use Rattle.output.proofs.Pieces.{and_then, cut}
use Rattle.output.proofs.Tuple4Text.put.Goals as goal

pub returns-in_err-at-clause-text : goal.returns-in_err-at-clause-text
returns-in_err-at-clause-text g c = rw c.from_residual.ensures (cut _ _ c.in_err-at.ensures.text)

pub returns-in_err-at-2-clause-text : goal.returns-in_err-at-2-clause-text
returns-in_err-at-2-clause-text g c =
    rw c.from_residual-in_err-at-2.ensures (and_then c.in_ok-at.ensures.text (cut _ _ c.in_err-at-2.ensures.text))

pub returns-in_err-at-3-clause-text : goal.returns-in_err-at-3-clause-text
returns-in_err-at-3-clause-text g c =
    rw c.from_residual-in_err-at-3.ensures (and_then c.in_ok-at.ensures.text (and_then c.in_ok-at-2.ensures.text (cut _ _ c.in_err-at-3.ensures.text)))

pub returns-clause-text : goal.returns-clause-text
returns-clause-text g c =
    and_then c.in_ok-at.ensures.text (and_then c.in_ok-at-2.ensures.text (and_then c.in_ok-at-3.ensures.text c.put-4.ensures.text))
