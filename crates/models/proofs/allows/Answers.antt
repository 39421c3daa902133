use Rattle.std.proofs.Common.{sym, ◌∙◌}
use Rattle.models.proofs.Arranging.{allowed, not_allowed}
use Rattle.models.proofs.allows.Goals as goal

pub returns-in-Quiet : goal.returns-in-Quiet
returns-in-Quiet g c =
    allowed _ _ _ _ (g.met.B.Book.lawful c.args.book.now) c.args.yes.now _ c.arrange.ensures c.arrange.auto.marks c.in-Ok.ensures.0 (sym c.in-Ok.ensures.1 ∙ c.in-Quiet.is)

pub returns-in_default-matches : goal.returns-in_default-matches
returns-in_default-matches g c =
    not_allowed _ _ _ _ (g.met.B.Book.lawful c.args.book.now) c.args.yes.now _ c.arrange.ensures c.arrange.auto.marks c.in-Ok.ensures.0 (λ e. c.in_default-matches.not-Quiet (c.in-Ok.ensures.1 ∙ e))
