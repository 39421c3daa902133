use Rattle.std.proofs.Common.{ℕ, sym, ap, ◌∙◌}
use Rattle.models.specs.Arrangements.{arranged}
use Rattle.models.proofs.Arranging.{all_more, all_done}
use Rattle.models.proofs.arrange.Goals as goal

pub loop-choice-preserved : goal.loop-choice-preserved
loop-choice-preserved c =
    sym (all_more c.args.yes.now c.loop-choice.marks c.mark_yes.new.marks c.loop-choice.choice-index c.loop-choice-test.true c.mark_yes.ensures) ∙ c.loop-choice.invariant

pub returns : goal.returns
returns c =
    sym (all_done c.args.yes.now c.loop-choice.marks c.loop-choice.choice-index c.loop-choice-test.false) ∙
    c.loop-choice.invariant ∙
    ap (λ (n : ℕ). arranged n c.args.yes.now) c.fill.auto.self
