-- What a box book means.
use Rattle.std.specs.Prelude.{ℕ, List, length}
use Rattle.box_book.specs.declared.NameBox.{NameBox}
use Rattle.box_book.specs.declared.checked.BoxBook.{BoxBook}

abbrev pub boxes_of : BoxBook → List NameBox
boxes_of b = b.boxes.now

-- as many choices as boxes
abbrev pub size_of : BoxBook → ℕ
size_of b = length (boxes_of b)
