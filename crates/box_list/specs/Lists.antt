-- What the reading of a text into a list of boxes answers.
use Rattle.std.specs.Prelude.{◌≡◌, ℕ, ◌+◌, ◌⊎◌, List, length, take, drop, Ok, Err, Result}
use Rattle.refusal.specs.declared.Refusal.{Refusal}
use Rattle.box_book.specs.declared.NameBox.{NameBox}
use Rattle.box_book.specs.declared.BoxCause.{BoxCause}
use Rattle.box_book.specs.declared.BoxCause.TheVariants.{TooMany, Name, Edge}
use Rattle.box_book.specs.Causes.{told_box, NumberFits, Clean, FirstCause, Sound}
use Rattle.box_text.specs.declared.CellCause.{CellCause}
use Rattle.box_text.specs.declared.CellCause.TheVariants.{Name as NameCell, Edge as EdgeCell}
use Rattle.box_text.specs.Text.{rows_of, headings}
use Rattle.box_list.specs.declared.BoxListFault.{BoxListFault}
use Rattle.box_list.specs.Spelling.{box_rows, SpellsAll}
use Rattle.box_list.specs.Causes.{NoFault, FirstFault}

-- The text is a list of these boxes: its rows spell them, and no cause is at any of them. So they are sound.
pub record Listed (text : List ℕ) (bs : List NameBox) : Type 0 where
  pub spelled : SpellsAll (box_rows text) bs
  pub faultless : NoFault (box_rows text)
  pub sound : Sound bs

-- the number in the text, from 1, of the row of the box at a place
abbrev pub row_number : List ℕ → ℕ → ℕ
row_number text k = headings (rows_of text) + (k + 1)

-- The text is refused with this fault: the first that it has, and the row of its box.
pub record Refused (text : List ℕ) (f : BoxListFault) : Type 0 where
  pub first : FirstFault (box_rows text) f.fault
  pub row : f.row ≡ row_number text f.fault.place

-- What a reading answers, by the list before it and after it. The boxes stand at the front of the list, and the rest of it
-- is as it was; a refusal leaves all of it as it was.
abbrev pub Read : List ℕ → List NameBox → List NameBox → Result ℕ BoxListFault → Type 0
Read text list list' (Ok n) = (n ≡ length (box_rows text)) × Listed text (take n list') × (drop n list' ≡ drop n list)
Read text list list' (Err f) = Refused text f × (list' ≡ list)

-- the fault of a text with too many boxes
abbrev pub surplus : List ℕ → BoxListFault
surplus text = record { fault = record { cause = TooMany; place = 4096 }; row = row_number text 4096 }

-- the fault as it is told
abbrev pub told_list : BoxListFault → Refusal
told_list f = told_box f.fault

-- For the private functions.

-- The cause of a row that is no box: an edge is told only of a name that may be.
abbrev pub Told : CellCause → BoxCause → Type 0
Told NameCell c = c ≡ Name
Told (EdgeCell n) c = (NumberFits n × (c ≡ Edge)) ⊎ ((NumberFits n → ⊥) × (c ≡ Name))

-- A row that reads so, after a box with that name, is a box or has a cause.
abbrev pub Judged : Result NameBox CellCause → ℕ → Result NameBox BoxCause → Type 0
Judged (Ok w) before (Ok b) = (b ≡ w) × Clean b before
Judged (Ok w) before (Err c) = FirstCause w before c
Judged (Err e) before (Ok b) = ⊥
Judged (Err e) before (Err c) = Told e c
