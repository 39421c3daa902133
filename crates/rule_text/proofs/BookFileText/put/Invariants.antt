use Rattle.std.proofs.Common.{drop}
use Rattle.std.specs.List.{All}
use Rattle.output.proofs.Pieces.{Onward}
use Rattle.rules.specs.Storage.{decode}
use Rattle.rule_text.specs.Writing.{rule_lines}
use Rattle.rule_text.specs.Back.{SmallRule}
use Rattle.rule_text.proofs.BookFileText.put.Given as goal

abbrev pub invariant-loop-row : goal.invariant-loop-row
invariant-loop-row l =
    Onward l.initial.out l.initial.at (rule_lines (decode l.rules l.book.counts.now l.book.entries.now)) l.out l.at (rule_lines (decode (drop l.row-index l.rules) l.book.counts.now l.book.entries.now))
    × (All SmallRule (decode (drop l.row-index l.rules) l.book.counts.now l.book.entries.now) → All SmallRule (decode l.rules l.book.counts.now l.book.entries.now))
