use Rattle.std.proofs.Common.{drop}
use Rattle.std.specs.List.{All}
use Rattle.output.proofs.Pieces.{Onward}
use Rattle.rules.specs.Storage.{items}
use Rattle.rule_text.specs.Writing.{items_tokens}
use Rattle.rule_text.specs.Padding.{all_padded}
use Rattle.rule_text.specs.Back.{SmallItem}
use Rattle.rule_text.proofs.ItemsText.put.Given as goal

abbrev pub invariant-loop-row : goal.invariant-loop-row
invariant-loop-row l =
    Onward l.initial.out l.start (all_padded l.spacing (items_tokens (items l.entries l.side.entries.start l.side.entries.end l.rows))) l.out l.at (all_padded l.spacing (items_tokens (items l.entries l.from l.side.entries.end (drop l.row-index l.rows))))
    × (All SmallItem (items l.entries l.from l.side.entries.end (drop l.row-index l.rows)) → All SmallItem (items l.entries l.side.entries.start l.side.entries.end l.rows))
