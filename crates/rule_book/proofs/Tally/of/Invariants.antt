use Rattle.std.proofs.Common.{◌≡◌, ◌+◌, ◌≤◌, drop}
use Rattle.rules.specs.Rules.{yeses}
use Rattle.rule_book.specs.Readings.{opens}
use Rattle.rule_book.proofs.Tally.of.Given as goal

abbrev pub invariant-loop-choice : goal.invariant-loop-choice
invariant-loop-choice l =
    (l.yes + l.undecided ≤ l.choice-index) ×
    (l.yes + yeses l.marks (drop l.choice-index l.choices) ≡ yeses l.marks l.choices) ×
    (l.undecided + opens l.marks (drop l.choice-index l.choices) ≡ opens l.marks l.choices)
