use Rattle.rule_book.proofs.Spans.{run_clamped}
use Rattle.rule_book.proofs.part.Goals as goal

pub returns : goal.returns
returns g c =
    run_clamped c.args.span.start c.args.span.end _ _ c.args.list.now c.min-end.ensures c.min-start.ensures
