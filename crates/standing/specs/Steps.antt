-- What single steps of the code answer.
use Rattle.std.specs.Prelude.{ℕ, ◌-◌, Bool, true, false, cond, List, length, Some, None, Option, nat_le, slice_index_or}
use Rattle.std.specs.Option.{option_map_or}
use Rattle.book.specs.declared.Answer.{Answer}
use Rattle.book.specs.declared.Answer.TheVariants.{Yes as AnswerYes, No as AnswerNo}
use Rattle.book.specs.declared.Mark.{Mark}
use Rattle.book.specs.declared.Mark.TheVariants.{Open, Yes, No}
use Rattle.book.specs.declared.Reading.{Reading}
use Rattle.book.specs.declared.Reading.TheVariants.{Broken, Quiet}
use Rattle.book.specs.Books.{open_mark}
use Rattle.refusal.specs.declared.JobCause.{JobCause}
use Rattle.refusal.specs.declared.JobCause.TheVariants.{Choice, NotRising}
use Rattle.standing.specs.declared.Member.{Member}
use Rattle.standing.specs.Readings.{opposed, pressed, forced_or}
use Rattle.standing.specs.Table.{outside}

-- what one pin says of the mark of its choice c
abbrev pub pin_says : ℕ → Mark → Mark → Reading
pin_says c p m = cond (opposed p m) Broken (forced_or c (pressed p m) Quiet)

-- the place of choice c among n choices
abbrev pub place_of : ℕ → ℕ → Option ℕ
place_of n c = cond (outside n c) None (Some (c - 1))

-- what is wrong with a choice c
abbrev pub choice_cause : ℕ → ℕ → Option JobCause
choice_cause n c = cond (outside n c) (Some Choice) None

-- what is wrong with a member of choice c, the choice before it being p
abbrev pub member_cause : ℕ → ℕ → ℕ → Option JobCause
member_cause n p c = cond (outside n c) (Some Choice) (cond (nat_le c p) (Some NotRising) None)

-- the mark of a choice, where it is on the sheet
abbrev pub mark_at : List Mark → ℕ → Option Mark
mark_at ms c = cond (outside (length ms) c) None (Some (slice_index_or ms (c - 1) Open))

-- the answer is that of the mark
abbrev pub answers : Answer → Mark → Bool
answers v Open = false
answers AnswerYes Yes = true
answers AnswerYes No = false
answers AnswerNo Yes = false
answers AnswerNo No = true

-- a member is there: its choice has its answer
abbrev pub is_there : List Mark → Member → Bool
is_there ms m = option_map_or (answers m.answer) (mark_at ms m.choice) false

-- a member's choice is open
abbrev pub is_open : List Mark → Member → Bool
is_open ms m = option_map_or open_mark (mark_at ms m.choice) false

-- the member, where it is not there, with whether its choice is open
abbrev pub lack : List Mark → Member → Option (Member × Bool)
lack ms m = cond (is_there ms m) None (Some (m, is_open ms m))
