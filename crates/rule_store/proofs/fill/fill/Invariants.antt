use Rattle.std.proofs.Common.{◌≡◌}
use Rattle.scan.specs.Scans.{left}
use Rattle.rule_store.specs.Filling.{unfilled, fresh}
use Rattle.rule_store.proofs.Going.{Going, store_at}
use Rattle.rule_store.proofs.fill.fill.Given as goal

abbrev pub invariant-loop-part : goal.invariant-loop-part
invariant-loop-part l =
    Going l.bytes (unfilled fresh l.initial.rules l.initial.counts l.initial.entries) l.reader (store_at l.filler l.reader l.rules l.counts l.entries) × (l.tally ≡ l.reader.tally)

abbrev pub decreases-loop-part : goal.decreases-loop-part
decreases-loop-part l = left l.reader.scanner
