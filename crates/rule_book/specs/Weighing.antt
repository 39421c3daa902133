-- A rule's reading item by item: how the code finds it. That this is `rule_reading` is proved in Fold.antt.
use Rattle.std.specs.Prelude.{List, [], ◌∷◌, Some, None, Option}
use Rattle.book.specs.declared.Mark.{Mark}
use Rattle.book.specs.declared.Answer.{Answer}
use Rattle.book.specs.declared.Answer.TheVariants.{Yes as AnswerYes, No as AnswerNo}
use Rattle.book.specs.declared.Reading.{Reading}
use Rattle.book.specs.declared.Reading.TheVariants.{Broken, Quiet, Forced}
use Rattle.rules.specs.Rules.{Item, Rule}
use Rattle.rule_book.specs.declared.Status.{Status}
use Rattle.rule_book.specs.declared.Status.TheVariants.{Sure, Lost, Unsure}
use Rattle.rule_book.specs.declared.Role.{Role}
use Rattle.rule_book.specs.declared.Role.TheVariants.{Body, Head}
use Rattle.rule_book.specs.declared.Pressure.{Pressure}
use Rattle.rule_book.specs.declared.Pressure.TheVariants.{Broken as NoneUnsure, Forced as OneUnsure}
use Rattle.rule_book.specs.Readings.{status, body_pressed, head_pressed}

abbrev pub pressure_reading : Pressure → Reading
pressure_reading NoneUnsure = Broken
pressure_reading (OneUnsure c v) = Forced c v

-- .. and quiet where nothing can follow any more
abbrev pub reading_of : Option Pressure → Reading
reading_of None = Quiet
reading_of (Some p) = pressure_reading p

-- the answer by which a choice keeps the rule
abbrev pub answer_of : Role → Answer
answer_of Body = AnswerNo
answer_of Head = AnswerYes

-- what a single unsure item comes to
abbrev pub item_pressed : Role → List Mark → Item → Reading
item_pressed Body ms i = body_pressed i
item_pressed Head ms i = head_pressed ms i

-- one unsure item more: broken so far means that it is the first
abbrev pub joined : Reading → Reading → Reading
joined p Broken = p
joined p Quiet = Quiet
joined p (Forced c v) = Quiet

-- one item more, by its status, what it would come to alone, and the reading so far
abbrev pub weighed : Role → Status → Reading → Reading → Reading
weighed Body Sure p r = r
weighed Body Lost p r = Quiet
weighed Body Unsure p r = joined p r
weighed Head Sure p r = Quiet
weighed Head Lost p r = r
weighed Head Unsure p r = joined p r

abbrev pub weigh_item : Role → List Mark → Item → Reading → Reading
weigh_item o ms i r = weighed o (status ms i) (item_pressed o ms i) r

-- the items of a side, from a reading so far
abbrev pub weigh : Role → List Mark → List Item → Reading → Reading
weigh o ms [] r = r
weigh o ms (i ∷ is) r = weigh o ms is (weigh_item o ms i r)

abbrev pub weigh_rule : List Mark → Rule → Reading
weigh_rule ms r = weigh Head ms r.head (weigh Body ms r.body Broken)
