use Rattle.box_text.specs.Reader.{left}
use Rattle.box_text.specs.Text.{rows_of, headings}
use Rattle.box_list.specs.Spelling.{box_rows}
use Rattle.box_list.proofs.Filling.{Filled}
use Rattle.box_list.proofs.Taking.{After}
use Rattle.box_list.proofs.read_boxes.Given as goal

abbrev pub invariant-loop-row : goal.invariant-loop-row
invariant-loop-row l =
    After (box_rows l.text) (headings (rows_of l.text)) l.count l.reader ×
    Filled (box_rows l.text) l.initial.list l.list l.count l.before

abbrev pub decreases-loop-row : goal.decreases-loop-row
decreases-loop-row l = left l.reader
