-- The reading of rules.
use Rattle.std.specs.Prelude.{ℕ, ◌+◌, Bool, true, false, cond, List, [], ◌∷◌, ◌==◌, nat_le, nat_lt}
use Rattle.book.specs.declared.Mark.{Mark}
use Rattle.book.specs.declared.Mark.TheVariants.{Open, Yes, No}
use Rattle.book.specs.declared.Answer.{Answer}
use Rattle.book.specs.declared.Answer.TheVariants.{Yes as AnswerYes, No as AnswerNo}
use Rattle.book.specs.declared.Reading.{Reading}
use Rattle.book.specs.declared.Reading.TheVariants.{Broken, Quiet, Forced}
use Rattle.book.specs.Books.{open_mark, first_loud}
use Rattle.rules.specs.Rules.{Item, choice, count, Rule, mark_at, yeses, both, either}
use Rattle.rule_book.specs.declared.Status.{Status}
use Rattle.rule_book.specs.declared.Status.TheVariants.{Sure, Lost, Unsure}

-- a choice is sure if yes, lost if no, unsure if open
abbrev pub mark_status : Mark → Status
mark_status Open = Unsure
mark_status Yes = Sure
mark_status No = Lost

-- how many of the choices are open
abbrev pub opens : List Mark → List ℕ → ℕ
opens ms [] = 0
opens ms (c ∷ cs) = cond (open_mark (mark_at ms c)) 1 0 + opens ms cs

-- a count from k to m with y yes and o open choices is sure if k ≤ y and y + o ≤ m, lost if y > m or y + o < k,
-- otherwise unsure
abbrev pub count_status : ℕ → ℕ → ℕ → ℕ → Status
count_status k m y o = cond (both (nat_le k y) (nat_le (y + o) m)) Sure (cond (either (nat_lt m y) (nat_lt (y + o) k)) Lost Unsure)

abbrev pub status : List Mark → Item → Status
status ms (choice c) = mark_status (mark_at ms c)
status ms (count k m cs) = count_status k m (yeses ms cs) (opens ms cs)

abbrev pub is_sure : Status → Bool
is_sure Sure = true
is_sure Lost = false
is_sure Unsure = false

abbrev pub is_lost : Status → Bool
is_lost Sure = false
is_lost Lost = true
is_lost Unsure = false

abbrev pub is_unsure : Status → Bool
is_unsure Sure = false
is_unsure Lost = false
is_unsure Unsure = true

abbrev pub some_sure : List Mark → List Item → Bool
some_sure ms [] = false
some_sure ms (i ∷ is) = either (is_sure (status ms i)) (some_sure ms is)

abbrev pub some_lost : List Mark → List Item → Bool
some_lost ms [] = false
some_lost ms (i ∷ is) = either (is_lost (status ms i)) (some_lost ms is)

-- the unsure items, in order
abbrev pub unsure_items : List Mark → List Item → List Item
unsure_items ms [] = []
unsure_items ms (i ∷ is) = cond (is_unsure (status ms i)) (i ∷ unsure_items ms is) (unsure_items ms is)

-- the first open choice as written is forced; quiet with none
abbrev pub first_open : List Mark → List ℕ → Answer → Reading
first_open ms [] v = Quiet
first_open ms (c ∷ cs) v = cond (open_mark (mark_at ms c)) (Forced c v) (first_open ms cs v)

-- a single unsure item of the body: a choice is forced to no, a count is quiet
abbrev pub body_pressed : Item → Reading
body_pressed (choice c) = Forced c AnswerNo
body_pressed (count k m cs) = Quiet

-- a count from k to m in the head, with y yes and o open choices: its first open choice is forced to no if y = m, else to
-- yes if y + o = k, else it is quiet
abbrev pub count_pressed : List Mark → List ℕ → ℕ → ℕ → ℕ → ℕ → Reading
count_pressed ms cs k m y o = cond (y == m) (first_open ms cs AnswerNo) (cond (y + o == k) (first_open ms cs AnswerYes) Quiet)

-- a single unsure item of the head: a choice is forced to yes
abbrev pub head_pressed : List Mark → Item → Reading
head_pressed ms (choice c) = Forced c AnswerYes
head_pressed ms (count k m cs) = count_pressed ms cs k m (yeses ms cs) (opens ms cs)

-- by the unsure items of the body and of the head: broken with none, pressed with one, quiet with several
abbrev pub pressed : List Mark → List Item → List Item → Reading
pressed ms [] [] = Broken
pressed ms (i ∷ []) [] = body_pressed i
pressed ms [] (i ∷ []) = head_pressed ms i
pressed ms [] (i ∷ j ∷ hs) = Quiet
pressed ms (i ∷ []) (j ∷ hs) = Quiet
pressed ms (i ∷ j ∷ bs) hs = Quiet

-- a rule with a lost body item or a sure head item is quiet
abbrev pub rule_reading : List Mark → Rule → Reading
rule_reading ms r = cond (either (some_lost ms r.body) (some_sure ms r.head)) Quiet (pressed ms (unsure_items ms r.body) (unsure_items ms r.head))

-- the first in file order that is not quiet, or quiet
abbrev pub rules_reading : List Mark → List Rule → Reading
rules_reading ms [] = Quiet
rules_reading ms (r ∷ rs) = first_loud (rule_reading ms r) (rules_reading ms rs)
