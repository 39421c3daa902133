-- The reading of a box list.
use Rattle.std.specs.Prelude.{ℕ, ◌+◌, Bool, true, false, cond, not, ◌&&◌, ◌||◌, List, length, ◌==◌, Some, None, Option}
use Rattle.book.specs.declared.Mark.{Mark}
use Rattle.book.specs.declared.Mark.TheVariants.{Open, Yes, No}
use Rattle.book.specs.declared.Answer.TheVariants.{Yes as AnswerYes, No as AnswerNo}
use Rattle.book.specs.declared.Reading.{Reading}
use Rattle.book.specs.declared.Reading.TheVariants.{Broken, Quiet, Forced}
use Rattle.book.specs.Books.{open_mark}
use Rattle.box_book.specs.declared.NameBox.{NameBox}
use Rattle.box_book.specs.Causes.{box_at}
use Rattle.box_book.specs.Places.{some_below, first_below}
use Rattle.box_book.specs.Meaning.{clashes, mark_at}

abbrev pub is_yes : Mark → Bool
is_yes Open = false
is_yes Yes = true
is_yes No = false

abbrev pub is_no : Mark → Bool
is_no Open = false
is_no Yes = false
is_no No = true

-- whether a mark is the first of these
abbrev pub is_mark : Mark → Mark → Bool
is_mark Open m = open_mark m
is_mark Yes m = is_yes m
is_mark No m = is_no m

-- the box at j has that mark and clashes with b
abbrev pub clashes_at : List NameBox → List Mark → Mark → NameBox → ℕ → Bool
clashes_at bs ms m b j = is_mark m (mark_at ms j) && clashes (box_at bs j) b

-- a yes box before place n clashes with b
abbrev pub clashed : List NameBox → List Mark → ℕ → NameBox → Bool
clashed bs ms n b = some_below (clashes_at bs ms Yes b) n

-- the box at k is a yes box, and clashes with a yes box before it
abbrev pub crowded_at : List NameBox → List Mark → ℕ → Bool
crowded_at bs ms k = is_yes (mark_at ms k) && clashed bs ms k (box_at bs k)

-- two yes boxes clash
abbrev pub crowded : List NameBox → List Mark → Bool
crowded bs ms = some_below (crowded_at bs ms) (length bs)

-- the box at j has that name and is not marked no
abbrev pub keeps_at : List NameBox → List Mark → ℕ → ℕ → Bool
keeps_at bs ms m j = (box_at bs j).name == m && not (is_no (mark_at ms j))

-- all boxes of the name of the box at k are no
abbrev pub lost_at : List NameBox → List Mark → ℕ → Bool
lost_at bs ms k = not (some_below (keeps_at bs ms (box_at bs k).name) (length bs))

-- all boxes of some name are no
abbrev pub lost : List NameBox → List Mark → Bool
lost bs ms = some_below (lost_at bs ms) (length bs)

-- the box at k is open and clashes with a yes box
abbrev pub blocked_at : List NameBox → List Mark → ℕ → Bool
blocked_at bs ms k = open_mark (mark_at ms k) && clashed bs ms (length bs) (box_at bs k)

-- the box at j is another than that at k, has its name and is not marked no
abbrev pub rivals_at : List NameBox → List Mark → ℕ → ℕ → Bool
rivals_at bs ms k j = not (j == k) && keeps_at bs ms (box_at bs k).name j

-- the box at k is open, and all other boxes of its name are no
abbrev pub alone_at : List NameBox → List Mark → ℕ → Bool
alone_at bs ms k = open_mark (mark_at ms k) && not (some_below (rivals_at bs ms k) (length bs))

-- by the first open box that clashes with a yes box, and else by the first that is alone
abbrev pub pressed : Option ℕ → Option ℕ → Reading
pressed (Some k) alone = Forced (k + 1) AnswerNo
pressed None (Some k) = Forced (k + 1) AnswerYes
pressed None None = Quiet

-- names never fall along the list, so that the first box that is alone is that of the first name that has one
abbrev pub boxes_reading : List NameBox → List Mark → Reading
boxes_reading bs ms = cond (crowded bs ms || lost bs ms) Broken (pressed (first_below (blocked_at bs ms) (length bs)) (first_below (alone_at bs ms) (length bs)))
