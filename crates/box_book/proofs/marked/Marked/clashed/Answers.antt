use Rattle.std.proofs.Common.{◌∙◌}
use Rattle.box_book.proofs.Blocks.{clashed_by}
use Rattle.box_book.proofs.marked.Marked.clashed.Goals as goal

pub returns : goal.returns
returns c =
    let list = c.args.self.now in
    c.is_some.ensures ∙ clashed_by list.boxes.now list.marks.now c.args.b c.args.end c.first_clashing.result list.fit c.first_clashing.ensures
