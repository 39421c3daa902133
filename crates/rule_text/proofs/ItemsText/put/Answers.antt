use Rattle.output.proofs.Pieces.{onward, onward_cut, onward_same}
use Rattle.rules.specs.declared.CountRow.{CountRow}
use Rattle.rule_text.proofs.Lines.{row_text, rest_text}
use Rattle.rule_text.proofs.Bounds.{row_small, rest_small, if_some_then}
use Rattle.rule_text.proofs.ItemsText.put.Goals as goal

abbrev no_row : CountRow
no_row = record { lower = 0; upper = 0; choices = record { start = 0; end = 0 } }

pub returns-in_err-at-clause-text : goal.returns-in_err-at-clause-text
returns-in_err-at-clause-text c =
    let text = row_text c.args.self.now.spacing c.entries-entries.result.now c.loop-row.from c.args.self.now.side.entries.end c.part-rows.result.now c.loop-row.row-index no_row c.part.result.now c.part-in-loop-row.result.now c.loop-row-test.true c.part.ensures c.part-in-loop-row.ensures in
    rw (c.from_residual.ensures, ← c.entries-entries.ensures, ← c.counts.ensures, ← c.part-rows.ensures) (onward_cut _ _ c.loop-row.invariant.0 text c.in_err-at.ensures.text)

pub loop-row-preserved : goal.loop-row-preserved
loop-row-preserved c =
    let text = row_text c.args.self.now.spacing c.entries-entries.result.now c.loop-row.from c.args.self.now.side.entries.end c.part-rows.result.now c.loop-row.row-index no_row c.part.result.now c.part-in-loop-row.result.now c.loop-row-test.true c.part.ensures c.part-in-loop-row.ensures in
    let known = c.in_ok-at.ensures.known in (
      onward c.loop-row.invariant.0 text c.in_ok-at.ensures.text,
      λ rest. c.loop-row.invariant.1 (row_small c.entries-entries.result.now c.loop-row.from c.args.self.now.side.entries.end c.part-rows.result.now c.loop-row.row-index no_row c.part.result.now c.part-in-loop-row.result.now c.loop-row-test.true c.part.ensures c.part-in-loop-row.ensures known.0 known.1 rest),
    )

pub returns : goal.returns
returns c =
    let text = rest_text c.args.self.now.spacing c.entries-entries.result.now c.loop-row.from c.args.self.now.side.entries.end c.part-rows.result.now c.loop-row.row-index c.part-2.result.now c.loop-row-test.false c.part-2.ensures in
    rw (← c.entries-entries.ensures, ← c.counts.ensures, ← c.part-rows.ensures)
    (record {
      text = onward_same c.loop-row.invariant.0 text _ _ c.put-2.ensures.text;
      known = if_some_then c.put-2.result (λ small. c.loop-row.invariant.1 (rest_small c.entries-entries.result.now c.loop-row.from c.args.self.now.side.entries.end c.part-rows.result.now c.loop-row.row-index c.part-2.result.now c.loop-row-test.false c.part-2.ensures small)) c.put-2.ensures.known;
    })
