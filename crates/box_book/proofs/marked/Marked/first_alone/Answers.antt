use Rattle.std.proofs.Common.{rules, tests}
use Rattle.box_book.proofs.Names.{alone_first}
use Rattle.box_book.proofs.marked.Marked.first_alone.Goals as goal

pub returns : goal.returns
returns c =
    alone_first c.args.self.now _ (λ x p q r k. search (rules, tests)) c.runs.result c.find_map.new.self _ c.find_map.result c.runs.ensures.list c.runs.ensures.start c.find_map.ensures.ran c.find_map.ensures.runs (search rules)
