use Rattle.std.proofs.Common.{rules, tests}
use Rattle.box_book.proofs.Names.{lost_by}
use Rattle.box_book.proofs.marked.Marked.has_lost_name.Goals as goal

pub returns : goal.returns
returns c =
    lost_by c.args.self.now _ (λ x p q k. search (rules, tests)) (λ x p q k. search (rules, tests)) c.runs.result c.any.new.self _ c.any.result c.runs.ensures.list c.runs.ensures.start c.any.ensures.ran
