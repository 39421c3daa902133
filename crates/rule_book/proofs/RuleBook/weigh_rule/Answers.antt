use Rattle.rules.specs.Storage.{rule_of}
use Rattle.rule_book.specs.Fold.{rule_read, rule_quiet}
use Rattle.rule_book.specs.Weighing.{pressure_reading, reading_of}
use Rattle.rule_book.proofs.RuleBook.weigh_rule.Goals as goal

pub returns-in_err-body : goal.returns-in_err-body
returns-in_err-body c =
    rw c.from_residual.ensures (rule_quiet c.args.marks.now (rule_of c.args.self.now.counts.now c.args.self.now.entries.now c.args.row) c.in_err-body.ensures)

pub returns : goal.returns
returns c =
    rule_read c.args.marks.now (rule_of c.args.self.now.counts.now c.args.self.now.entries.now c.args.row) (pressure_reading c.in_ok-body.body) (reading_of c.weigh_side-2.result) c.in_ok-body.ensures c.weigh_side-2.ensures
