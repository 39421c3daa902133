-- Numbers in storage have 16 bits, so that those of its rules are small.
use Rattle.std.proofs.Common.{◌≡◌, ℕ, ◌+◌, ◌<◌, ◌≤◌, List, [], ◌∷◌, length, get_or, drop, Some, None, Option}
use Rattle.std.specs.List.{All}
use Rattle.std.specs.Option.{OnSome}
use Rattle.std.proofs.lemmas.List.Elements.{All-nil, All-cons, All-head, All-tail, All-append}
use Rattle.std.proofs.lemmas.List.{drop_more, drop_all}
use Rattle.rules.specs.declared.CountRow.{CountRow}
use Rattle.rules.specs.declared.RuleRow.{RuleRow}
use Rattle.rules.specs.Rules.{choice, count}
use Rattle.rules.specs.Storage.{run, choices, items, rule_of, decode}
use Rattle.rule_text.specs.Back.{Small, SmallItem, SmallRule}

choices_small : (cs : List ℕ) → All Small cs → All SmallItem (choices cs)
choices_small [] h = All-nil SmallItem
choices_small (c ∷ cs) h = All-cons SmallItem (choice c) (choices cs) (All-head Small c cs h) (choices_small cs (All-tail Small c cs h))

-- one count row of a side, with the choices l before it
pub row_small : (xs : List ℕ) (a b : ℕ) (ks : List CountRow) (i : ℕ) (d : CountRow) (l cs : List ℕ) → i < length ks → l ≡ run a (get_or ks i d).choices.start xs → cs ≡ run (get_or ks i d).choices.start (get_or ks i d).choices.end xs → All Small l → SmallItem (count (get_or ks i d).lower (get_or ks i d).upper cs) → All SmallItem (items xs (get_or ks i d).choices.end b (drop (i + 1) ks)) → All SmallItem (items xs a b (drop i ks))
row_small xs a b ks i d l cs h el ec lone here rest =
    let k : CountRow = get_or ks i d in
    rw (drop_more ks i d h, ← el, ← ec)
    (All-append SmallItem (choices l) (count k.lower k.upper cs ∷ items xs k.choices.end b (drop (i + 1) ks)) (choices_small l lone) (All-cons SmallItem (count k.lower k.upper cs) (items xs k.choices.end b (drop (i + 1) ks)) here rest))

-- past the last count row the choices l are left
pub rest_small : (xs : List ℕ) (a b : ℕ) (ks : List CountRow) (i : ℕ) (l : List ℕ) → length ks ≤ i → l ≡ run a b xs → All Small l → All SmallItem (items xs a b (drop i ks))
rest_small xs a b ks i l h el small = rw (drop_all i ks h, ← el) (choices_small l small)

-- the rules
pub rule_small : (rs : List RuleRow) (cs : List CountRow) (xs : List ℕ) (i : ℕ) (d : RuleRow) → i < length rs → SmallRule (rule_of cs xs (get_or rs i d)) → All SmallRule (decode (drop (i + 1) rs) cs xs) → All SmallRule (decode (drop i rs) cs xs)
rule_small rs cs xs i d h r rest = rw (drop_more rs i d h) (All-cons SmallRule (rule_of cs xs (get_or rs i d)) (decode (drop (i + 1) rs) cs xs) r rest)

pub rules_end : (rs : List RuleRow) (cs : List CountRow) (xs : List ℕ) (i : ℕ) → length rs ≤ i → All SmallRule (decode (drop i rs) cs xs)
rules_end rs cs xs i h = rw (drop_all i rs h) (All-nil SmallRule)

-- what holds once all is written
pub if_some_then : {P Q : Type 0} (r : Option ℕ) → (P → Q) → OnSome r P → OnSome r Q
if_some_then (Some end) f p = f p
if_some_then None f p = tt
