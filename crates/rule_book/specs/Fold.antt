-- A rule's reading item by item is its reading.
use Rattle.std.proofs.Common.{◌≡◌, ℕ, ◌+◌, Bool, true, false, cond, eqb, List, [], ◌∷◌, ◌++◌, sym, refl, ap, ◌∙◌}
use Rattle.book.specs.declared.Mark.{Mark}
use Rattle.book.specs.declared.Answer.{Answer}
use Rattle.book.specs.declared.Answer.TheVariants.{Yes as AnswerYes, No as AnswerNo}
use Rattle.book.specs.declared.Reading.{Reading}
use Rattle.book.specs.declared.Reading.TheVariants.{Broken, Quiet, Forced}
use Rattle.book.specs.Books.{open_mark}
use Rattle.rules.specs.Rules.{Item, choice, count, Rule, mark_at, yeses, either}
use Rattle.rule_book.specs.declared.Status.{Status}
use Rattle.rule_book.specs.declared.Status.TheVariants.{Sure, Lost, Unsure}
use Rattle.rule_book.specs.declared.Role.{Role}
use Rattle.rule_book.specs.declared.Role.TheVariants.{Body, Head}
use Rattle.rule_book.specs.Readings.{opens, status, is_sure, is_lost, is_unsure, some_sure, some_lost, unsure_items, first_open, body_pressed, head_pressed, pressed, rule_reading}
use Rattle.rule_book.specs.Weighing.{joined, weighed, item_pressed, weigh, weigh_item, weigh_rule}

weighed_quiet : (o : Role) (s : Status) (p : Reading) → weighed o s p Quiet ≡ Quiet
weighed_quiet Body Sure p = refl
weighed_quiet Body Lost p = refl
weighed_quiet Body Unsure p = refl
weighed_quiet Head Sure p = refl
weighed_quiet Head Lost p = refl
weighed_quiet Head Unsure p = refl

-- once quiet, always quiet
pub weigh_quiet : (o : Role) (ms : List Mark) (is : List Item) → weigh o ms is Quiet ≡ Quiet
weigh_quiet o ms [] = refl
weigh_quiet o ms (i ∷ is) = ap (weigh o ms is) (weighed_quiet o (status ms i) (item_pressed o ms i)) ∙ weigh_quiet o ms is

pub weigh_append : (o : Role) (ms : List Mark) (is js : List Item) (r : Reading) → weigh o ms (is ++ js) r ≡ weigh o ms js (weigh o ms is r)
weigh_append o ms [] js r = refl
weigh_append o ms (i ∷ is) js r = weigh_append o ms is js (weigh_item o ms i r)

-- a single unsure item never comes to broken
quiet_broken : Quiet ≡ Broken → ⊥
quiet_broken e = cc

forced_broken : (c : ℕ) (v : Answer) → Forced c v ≡ Broken → ⊥
forced_broken c v e = cc

cond_broken : (b : Bool) (x y : Reading) → (x ≡ Broken → ⊥) → (y ≡ Broken → ⊥) → cond b x y ≡ Broken → ⊥
cond_broken true x y f g = f
cond_broken false x y f g = g

first_broken : (ms : List Mark) (cs : List ℕ) (v : Answer) → first_open ms cs v ≡ Broken → ⊥
first_broken ms [] v = quiet_broken
first_broken ms (c ∷ cs) v = cond_broken (open_mark (mark_at ms c)) _ _ (forced_broken c v) (first_broken ms cs v)

pub pressed_broken : (o : Role) (ms : List Mark) (i : Item) → item_pressed o ms i ≡ Broken → ⊥
pressed_broken Body ms (choice c) = forced_broken c AnswerNo
pressed_broken Body ms (count k m cs) = quiet_broken
pressed_broken Head ms (choice c) = forced_broken c AnswerYes
pressed_broken Head ms (count k m cs) =
    cond_broken (eqb (yeses ms cs) m) _ _ (first_broken ms cs AnswerNo) (cond_broken (eqb (yeses ms cs + opens ms cs) k) _ _ (first_broken ms cs AnswerYes) quiet_broken)

joined_quiet : (p r : Reading) → (r ≡ Broken → ⊥) → joined p r ≡ Quiet
joined_quiet p Broken h = absurd (h refl)
joined_quiet p Quiet h = refl
joined_quiet p (Forced c v) h = refl

joined_broken : (p r : Reading) → (p ≡ Broken → ⊥) → joined p r ≡ Broken → ⊥
joined_broken p Broken h = h
joined_broken p Quiet h = quiet_broken
joined_broken p (Forced c v) h = quiet_broken

-- the unsure items of a side, from a reading so far
abbrev gather : (Item → Reading) → List Item → Reading → Reading
gather p [] r = r
gather p (i ∷ []) r = joined (p i) r
gather p (i ∷ j ∷ us) r = Quiet

gather_quiet : (p : Item → Reading) (us : List Item) → gather p us Quiet ≡ Quiet
gather_quiet p [] = refl
gather_quiet p (i ∷ []) = refl
gather_quiet p (i ∷ j ∷ us) = refl

gather_more : (p : Item → Reading) (i : Item) (us : List Item) (r : Reading) → (p i ≡ Broken → ⊥) → gather p us (joined (p i) r) ≡ gather p (i ∷ us) r
gather_more p i [] r h = refl
gather_more p i (j ∷ []) r h = joined_quiet (p j) (joined (p i) r) (joined_broken (p i) r h)
gather_more p i (j ∷ k ∷ us) r h = refl

-- what makes a rule quiet
abbrev settles : Role → List Mark → List Item → Bool
settles Body ms is = some_lost ms is
settles Head ms is = some_sure ms is

-- one item more, by its status
abbrev Weighs : Role → List Mark → List Item → Reading → Type 0
Weighs o ms is r = weigh o ms is r ≡ cond (settles o ms is) Quiet (gather (item_pressed o ms) (unsure_items ms is) r)

body_more : (ms : List Mark) (i : Item) (is : List Item) (r : Reading) (s : Status) → ((x : Reading) → Weighs Body ms is x) → weigh Body ms is (weighed Body s (body_pressed i) r) ≡ cond (either (is_lost s) (some_lost ms is)) Quiet (gather (item_pressed Body ms) (cond (is_unsure s) (i ∷ unsure_items ms is) (unsure_items ms is)) r)
body_more ms i is r Sure rest = rest r
body_more ms i is r Lost rest = weigh_quiet Body ms is
body_more ms i is r Unsure rest =
    rest (joined (body_pressed i) r) ∙ ap (λ (x : Reading). cond (some_lost ms is) Quiet x) (gather_more (item_pressed Body ms) i (unsure_items ms is) r (pressed_broken Body ms i))

head_more : (ms : List Mark) (i : Item) (is : List Item) (r : Reading) (s : Status) → ((x : Reading) → Weighs Head ms is x) → weigh Head ms is (weighed Head s (head_pressed ms i) r) ≡ cond (either (is_sure s) (some_sure ms is)) Quiet (gather (item_pressed Head ms) (cond (is_unsure s) (i ∷ unsure_items ms is) (unsure_items ms is)) r)
head_more ms i is r Sure rest = weigh_quiet Head ms is
head_more ms i is r Lost rest = rest r
head_more ms i is r Unsure rest =
    rest (joined (head_pressed ms i) r) ∙ ap (λ (x : Reading). cond (some_sure ms is) Quiet x) (gather_more (item_pressed Head ms) i (unsure_items ms is) r (pressed_broken Head ms i))

weigh_is : (o : Role) (ms : List Mark) (is : List Item) (r : Reading) → Weighs o ms is r
weigh_is Body ms [] r = refl
weigh_is Head ms [] r = refl
weigh_is Body ms (i ∷ is) r = body_more ms i is r (status ms i) (λ x. weigh_is Body ms is x)
weigh_is Head ms (i ∷ is) r = head_more ms i is r (status ms i) (λ x. weigh_is Head ms is x)

both_sides : (ms : List Mark) (bs hs : List Item) → gather (item_pressed Head ms) hs (gather (item_pressed Body ms) bs Broken) ≡ pressed ms bs hs
both_sides ms [] [] = refl
both_sides ms [] (i ∷ []) = refl
both_sides ms [] (i ∷ j ∷ hs) = refl
both_sides ms (i ∷ []) [] = refl
both_sides ms (i ∷ []) (j ∷ []) = joined_quiet (head_pressed ms j) (body_pressed i) (pressed_broken Body ms i)
both_sides ms (i ∷ []) (j ∷ k ∷ hs) = refl
both_sides ms (i ∷ j ∷ bs) hs = gather_quiet (item_pressed Head ms) hs

merged : (ms : List Mark) (l s : Bool) (bs hs : List Item) → cond s Quiet (gather (item_pressed Head ms) hs (cond l Quiet (gather (item_pressed Body ms) bs Broken))) ≡ cond (either l s) Quiet (pressed ms bs hs)
merged ms true true bs hs = refl
merged ms true false bs hs = gather_quiet (item_pressed Head ms) hs
merged ms false true bs hs = refl
merged ms false false bs hs = both_sides ms bs hs

rule_is : (ms : List Mark) (r : Rule) → weigh_rule ms r ≡ rule_reading ms r
rule_is ms r =
    ap (weigh Head ms r.head) (weigh_is Body ms r.body Broken) ∙
    weigh_is Head ms r.head (cond (some_lost ms r.body) Quiet (gather (item_pressed Body ms) (unsure_items ms r.body) Broken)) ∙
    merged ms (some_lost ms r.body) (some_sure ms r.head) (unsure_items ms r.body) (unsure_items ms r.head)

-- the reading of a rule, from that of its body
pub rule_read : (ms : List Mark) (r : Rule) (b x : Reading) → b ≡ weigh Body ms r.body Broken → x ≡ weigh Head ms r.head b → x ≡ rule_reading ms r
rule_read ms r b x eb ex = ex ∙ ap (weigh Head ms r.head) eb ∙ rule_is ms r

pub rule_quiet : (ms : List Mark) (r : Rule) → Quiet ≡ weigh Body ms r.body Broken → Quiet ≡ rule_reading ms r
rule_quiet ms r e = rule_read ms r Quiet Quiet e (sym (weigh_quiet Head ms r.head))
