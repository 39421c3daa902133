use Rattle.std.proofs.Common.{◌<◌, length, refl, rules}
use Rattle.box_book.proofs.Names.{run_by}
use Rattle.box_book.proofs.marked.runs.NameRunsIterator.next.Goals as goal

pub returns-clause-steps : goal.returns-clause-steps
returns-clause-steps c =
    let bs = c.args.self.now.list.boxes.now in
    let s = c.args.self.now.start in
    let n = c.front_of_name.result in
    let found = c.front_of_name.ensures in
    let l : s < length bs = search rules in
    (refl, record { ends = run_by bs s n _ l (search rules) found.within found.same found.other; start = refl; marks = search rules })
