-- How pins and bans read marks, and what they allow.
use Rattle.std.specs.Prelude.{◌≡◌, ℕ, suc, ◌-◌, ◌<◌, Bool, true, false, cond, List, [], ◌∷◌, length, Some, None, Option, ◌==◌, nat_lt, slice_index_or}
use Rattle.book.specs.declared.Answer.{Answer}
use Rattle.book.specs.declared.Answer.TheVariants.{Yes as AnswerYes, No as AnswerNo}
use Rattle.book.specs.declared.Mark.{Mark}
use Rattle.book.specs.declared.Mark.TheVariants.{Open, Yes, No}
use Rattle.book.specs.declared.Reading.{Reading}
use Rattle.book.specs.declared.Reading.TheVariants.{Broken, Quiet, Forced}
use Rattle.book.specs.Books.{mark_of, other_answer, first_loud}
use Rattle.standing.specs.declared.Member.{Member}

-- the mark has the other answer than the pin
abbrev pub opposed : Mark → Mark → Bool
opposed Open m = false
opposed Yes Open = false
opposed Yes Yes = false
opposed Yes No = true
opposed No Open = false
opposed No Yes = true
opposed No No = false

-- some pinned choice has the other answer
abbrev pub defied : List Mark → List Mark → Bool
defied [] ms = false
defied (p ∷ ps) [] = false
defied (p ∷ ps) (m ∷ ms) = cond (opposed p m) true (defied ps ms)

-- the answer that a pin forces on a mark
abbrev pub pressed : Mark → Mark → Option Answer
pressed Open m = None
pressed Yes Open = Some AnswerYes
pressed Yes Yes = None
pressed Yes No = None
pressed No Open = Some AnswerNo
pressed No Yes = None
pressed No No = None

abbrev pub forced_or : ℕ → Option Answer → Reading → Reading
forced_or c (Some v) r = Forced c v
forced_or c None r = r

-- the lowest pinned choice that is open, where the lists begin at choice c
abbrev pub lowest_pin : ℕ → List Mark → List Mark → Reading
lowest_pin c [] ms = Quiet
lowest_pin c (p ∷ ps) [] = Quiet
lowest_pin c (p ∷ ps) (m ∷ ms) = forced_or c (pressed p m) (lowest_pin (suc c) ps ms)

-- broken if a pinned choice has the other answer; else forced at the lowest pinned choice that is open
abbrev pub pins_reading : List Mark → List Mark → Reading
pins_reading ps ms = cond (defied ps ms) Broken (lowest_pin 1 ps ms)

-- each pin has its answer there
abbrev pub Obeys : List Mark → List Mark → Type 0
Obeys ps a = (k : ℕ) (v : Answer) → k < length a → slice_index_or ps k Open ≡ mark_of v → slice_index_or a k Open ≡ mark_of v

-- what a ban finds: all its members are there, or all but one whose choice is open, or neither
pub data Finding : Type 0 where
  whole : Finding
  lacking : ℕ → Answer → Finding
  neither : Finding

abbrev pub one_open : ℕ → Answer → Finding → Finding
one_open c v whole = lacking c v
one_open c v (lacking d w) = neither
one_open c v neither = neither

-- a member by the mark of its choice, before others with that finding
abbrev pub by_mark : ℕ → Answer → Mark → Finding → Finding
by_mark c v Open f = one_open c v f
by_mark c AnswerYes Yes f = f
by_mark c AnswerNo Yes f = neither
by_mark c AnswerYes No f = neither
by_mark c AnswerNo No f = f

-- a member whose choice is not on the sheet is never there
abbrev pub member_finds : List Mark → Member → Finding → Finding
member_finds ms m f = cond (m.choice == 0) neither (cond (nat_lt (m.choice - 1) (length ms)) (by_mark m.choice m.answer (slice_index_or ms (m.choice - 1) Open) f) neither)

abbrev pub ban_finds : List Mark → List Member → Finding
ban_finds ms [] = whole
ban_finds ms (m ∷ b) = member_finds ms m (ban_finds ms b)

-- a ban with all its members there is broken; with all but one there, and that one open, the other answer is forced on it
abbrev pub finding_reads : Finding → Reading
finding_reads whole = Broken
finding_reads (lacking c v) = Forced c (other_answer v)
finding_reads neither = Quiet

abbrev pub ban_reading : List Mark → List Member → Reading
ban_reading ms b = finding_reads (ban_finds ms b)

-- the first ban, in order, that has something to say
abbrev pub bans_reading : List (List Member) → List Mark → Reading
bans_reading [] ms = Quiet
bans_reading (b ∷ bs) ms = first_loud (ban_reading ms b) (bans_reading bs ms)

-- a member is there: its choice has its answer
abbrev pub There : Member → List Mark → Type 0
There m a = (0 < m.choice) × (slice_index_or a (m.choice - 1) Open ≡ mark_of m.answer)

abbrev pub AllThere : List Member → List Mark → Type 0
AllThere [] a = Unit {0}
AllThere (m ∷ ms) a = There m a × AllThere ms a

-- no ban has all its members there
abbrev pub Avoids : List (List Member) → List Mark → Type 0
Avoids [] a = Unit {0}
Avoids (b ∷ bs) a = (AllThere b a → ⊥) × Avoids bs a
