-- Marks, arrangements and their order, and the laws of books.
use Rattle.std.specs.Prelude.{◌≡◌, ℕ, ◌-◌, ◌<◌, ◌≤◌, Bool, true, false, ◌⊎◌, List, length, Some, None, Option, Ok, Err, Result, ◌≢◌, slice_index_or}
use Rattle.book.specs.declared.Mark.{Mark}
use Rattle.book.specs.declared.Mark.TheVariants.{Open, Yes, No}
use Rattle.book.specs.declared.Answer.{Answer}
use Rattle.book.specs.declared.Answer.TheVariants.{Yes as AnswerYes, No as AnswerNo}
use Rattle.book.specs.declared.Reading.{Reading}
use Rattle.book.specs.declared.Reading.TheVariants.{Broken, Quiet, Forced}
use Rattle.book.specs.declared.Unfit.{Unfit}

abbrev pub mark_of : Answer → Mark
mark_of AnswerYes = Yes
mark_of AnswerNo = No

abbrev pub other_answer : Answer → Answer
other_answer AnswerYes = AnswerNo
other_answer AnswerNo = AnswerYes

abbrev pub open_mark : Mark → Bool
open_mark Open = true
open_mark Yes = false
open_mark No = false

-- a reading that is not quiet
abbrev pub loud : Reading → Option Reading
loud Broken = Some Broken
loud Quiet = None
loud (Forced c v) = Some (Forced c v)

-- the first of two readings, unless it is quiet
abbrev pub first_loud : Reading → Reading → Reading
first_loud Broken r = Broken
first_loud Quiet r = r
first_loud (Forced c v) r = Forced c v

-- a list that extends the marks agrees with them wherever they are not open
abbrev pub Extends : List Mark → List Mark → Type 0
Extends ms a = (length a ≡ length ms) × ((k : ℕ) (v : Answer) → slice_index_or ms k Open ≡ mark_of v → slice_index_or a k Open ≡ mark_of v)

-- none of the marks is open
abbrev pub Settled : List Mark → Type 0
Settled ms = (k : ℕ) → k < length ms → slice_index_or ms k Open ≢ Open

-- the earlier of two arrangements has yes at the lowest choice where they differ
abbrev pub Earlier : List Mark → List Mark → Type 0
Earlier a b = (k : ℕ) × ((j : ℕ) → j < k → slice_index_or a j Open ≡ slice_index_or b j Open) × (slice_index_or a k Open ≡ Yes) × (slice_index_or b k Open ≡ No)

-- What every book shows, by its n, the arrangements that it allows and its reading of every list. Choice c has the
-- place c - 1 in a list of marks.
pub record Laws (n : ℕ) (allows : List Mark → Type 0) (reads : List Mark → Reading) : Type 0 where
  -- n goes to 4,096
  pub small : n ≤ 4096
  -- what is allowed is an arrangement
  pub sized : (a : List Mark) → allows a → (length a ≡ n) × Settled a
  -- broken is read only of marks that no allowed arrangement extends
  pub broken : (ms : List Mark) → length ms ≡ n → reads ms ≡ Broken → (a : List Mark) → allows a → Extends ms a → ⊥
  -- forced is read only with an open choice ..
  pub forced_open : (ms : List Mark) (c : ℕ) (v : Answer) → length ms ≡ n → reads ms ≡ Forced c v → (0 < c) × (c ≤ n) × (slice_index_or ms (c - 1) Open ≡ Open)
  -- .. where each allowed arrangement that extends the marks has that answer
  pub forced : (ms : List Mark) (c : ℕ) (v : Answer) → length ms ≡ n → reads ms ≡ Forced c v → (a : List Mark) → allows a → Extends ms a → slice_index_or a (c - 1) Open ≡ mark_of v
  -- marks with none open are read quiet if allowed, and broken if not
  pub settled : (ms : List Mark) → length ms ≡ n → Settled ms → ((reads ms ≡ Quiet) × allows ms) ⊎ ((reads ms ≡ Broken) × (allows ms → ⊥))

-- what a query answers: unfit exactly if the list is not n marks long
abbrev pub ReadsAs : ℕ → (List Mark → Reading) → List Mark → Result Reading Unfit → Type 0
ReadsAs n reads ms (Ok r) = (length ms ≡ n) × (r ≡ reads ms)
ReadsAs n reads ms (Err e) = length ms ≡ n → ⊥
