use Rattle.std.proofs.Common.{Some, None, arith}
use Rattle.box_text.specs.Text.{rows_of, headings}
use Rattle.box_list.specs.Spelling.{box_rows}
use Rattle.box_list.proofs.Taking.{after_none, passed}
use Rattle.box_list.proofs.surplus_row.Goals as goal

pub returns-in_err-nth : goal.returns-in_err-nth
returns-in_err-nth c =
    let text = c.args.text.now in
    let made = c.new-reader.ensures in
    rw c.from_residual.ensures (passed (box_rows text) (headings (rows_of text)) 4096 c.new-reader.result c.nth.new.self None (after_none (box_rows text) (headings (rows_of text)) c.new-reader.result made.rows made.number) c.in_err-nth.ensures.ran)

pub returns : goal.returns
returns c =
    let text = c.args.text.now in
    let made = c.new-reader.ensures in
    let at = passed (box_rows text) (headings (rows_of text)) 4096 c.new-reader.result c.nth.new.self (Some c.in_ok-nth.field-0) (after_none (box_rows text) (headings (rows_of text)) c.new-reader.result made.rows made.number) c.in_ok-nth.ensures.ran in
    (at.0, omega (arith, at.1.number, c.row_number.ensures))
