use Rattle.std.proofs.Common.{◌≡◌, drop}
use Rattle.rules.specs.Storage.{items}
use Rattle.rule_book.specs.Weighing.{pressure_reading, weigh}
use Rattle.rule_book.proofs.RuleBook.weigh_side.Given as goal

abbrev pub invariant-loop-row : goal.invariant-loop-row
invariant-loop-row l =
    weigh l.scale.role l.scale.marks.now (items l.self.entries.now l.initial.start l.side.entries.end l.row-items) (pressure_reading l.initial.pressure) ≡
    weigh l.scale.role l.scale.marks.now (items l.self.entries.now l.start l.side.entries.end (drop l.row-index l.row-items)) (pressure_reading l.pressure)
