use Rattle.std.proofs.Common.{◌∙◌, sym, subst, Decides}
use Rattle.box_book.specs.Runs.{OneOpen}
use Rattle.box_book.proofs.Names.{closed_alone, rest_alone, alone_by}
use Rattle.box_book.proofs.marked.NameRun.alone.Goals as goal
use Rattle.box_book.proofs.marked.NameRun.alone.Goals.{then-is_open, else-is_open}

pub returns : goal.returns
returns c =
    let ms = c.args.self.now.marks.now in
    let k = c.in_ok-kept.kept in
    let first = c.in_ok-kept.ensures in
    let decided : Decides c.if-is_open.alone (OneOpen ms k) =
    elim c.if-is_open.branch [
      | then-is_open w ↦ subst (λ b. Decides b (OneOpen ms k)) (sym w.alone-is) (rest_alone ms k first.0 first.1 w.are_no-alone.result (sym w.if-is_open.ensures) w.are_no-alone.ensures)
      | else-is_open w ↦ subst (λ b. Decides b (OneOpen ms k)) (sym (w.alone-is ∙ w.if-is_open.false)) (closed_alone ms k first.0 first.1 (sym w.if-is_open.ensures))
    ] in
    alone_by ms k first.0 first.1 c.args.self.now.start c.if-is_open.alone c.then_some.result c.then_some.ensures decided
