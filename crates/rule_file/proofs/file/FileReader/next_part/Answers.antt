use Rattle.std.proofs.lemmas.Result.{err_from_is_err_and}
use Rattle.rule_file.proofs.Moving.{refused_line, refused_file, refused_rule}
use Rattle.rule_file.proofs.file.FileReader.next_part.Goals as goal

pub returns-in_err-place-clause-moves : goal.returns-in_err-place-clause-moves
returns-in_err-place-clause-moves c =
    let p = err_from_is_err_and c.from_residual.result c.from_residual.ensures.1 in
    rw (p.1, p.2) (refused_line c.args.self.now.line c.next_part.new.self c.args.self.now.scanner c.next_part.new.scanner c.args.self.now.tally c.args.self.now.tally _ c.in_err-place.ensures.reads)

pub returns-in-RuleLine-clause-moves : goal.returns-in-RuleLine-clause-moves
returns-in-RuleLine-clause-moves c =
    let n = c.in-Err.ensures in
    refused_rule c.args.self.now.line c.next_part.new.self c.args.self.now.scanner c.next_part.new.scanner c.args.self.now.tally c.count.new.self c.in_ok-place.place c.in_ok-place.part c.in-Err.cause c.surplus.result c.in_ok-place.ensures.reads c.in-RuleLine.is n.0 n.1 c.surplus.ensures

pub returns-in_default-part : goal.returns-in_default-part
returns-in_default-part c =
    let n = c.in-Err.ensures in
    record {
      moves = refused_file c.args.self.now.line c.next_part.new.self c.args.self.now.scanner c.next_part.new.scanner c.args.self.now.tally c.count.new.self c.in_ok-place.place c.in_ok-place.part c.in-Err.cause c.in_ok-place.ensures.reads n.0 c.in_default-part.not-RuleLine;
      nearer = tt;
      tallied = tt;
    }
