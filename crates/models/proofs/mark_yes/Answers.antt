use Rattle.std.proofs.Common.{inl, inr, arith}
use Rattle.models.proofs.Arranging.{mark_out}
use Rattle.models.proofs.mark_yes.Goals as goal

pub returns-else-choice-gt0 : goal.returns-else-choice-gt0
returns-else-choice-gt0 c =
    mark_out c.args.choice c.args.marks.now (λ h. elim c.else-choice-gt0.either [ inl e ↦ e.1 | inr e ↦ absurd (omega (arith, h, e)) ])
