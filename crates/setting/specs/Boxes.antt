-- What is printed of a box list.
use Rattle.std.specs.Prelude.{ℕ, List, length, Result}
use Rattle.refusal.specs.declared.At.{At}
use Rattle.refusal.specs.declared.JobCause.{JobCause}
use Rattle.box_book.specs.declared.NameBox.{NameBox}
use Rattle.box_book.specs.Meaning.{Allowed}
use Rattle.box_book.specs.Readings.{boxes_reading}
use Rattle.box_list.specs.declared.BoxListFault.{BoxListFault}
use Rattle.box_list.specs.Lists.{Listed, Refused, told_list}
use Rattle.printing.specs.declared.Position.TheVariants.{Row}
use Rattle.printing.specs.Output.{Printed}
use Rattle.printing.specs.Words.{refusal_text_at}
use Rattle.setting.specs.Sheets.{SearchPrinted}

-- What is printed of a text: where it is no box list, its first fault; where it is one, the verdict on the book of its boxes.
pub data BoxesPrinted (text : List ℕ) (allowance : ℕ) (out out' : List ℕ) (r : Result ℕ (At JobCause)) : Type 0 where
  refused : (f : BoxListFault) → Refused text f → Printed (refusal_text_at (told_list f) (Row f.row)) out out' r → BoxesPrinted text allowance out out' r
  sought : (bs : List NameBox) → Listed text bs → SearchPrinted (length bs) (Allowed bs) (boxes_reading bs) allowance out out' r → BoxesPrinted text allowance out out' r
