-- What the rows of storage mean.
use Rattle.std.specs.Prelude.{List, [], ◌∷◌, ◌++◌, ℕ, ◌-◌, take, drop}
use Rattle.rules.specs.declared.CountRow.{CountRow}
use Rattle.rules.specs.declared.Side.{Side}
use Rattle.rules.specs.declared.RuleRow.{RuleRow}
use Rattle.rules.specs.Rules.{Item, choice, count, Rule}

-- what stands in a list from one place up to another
abbrev pub run : {A : Type 0} → ℕ → ℕ → List A → List A
run a b xs = take (b - a) (drop a xs)

abbrev pub choices : List ℕ → List Item
choices [] = []
choices (c ∷ cs) = choice c ∷ choices cs

-- the items that stand among the entries from one place up to another, those counts among them
abbrev pub items : List ℕ → ℕ → ℕ → List CountRow → List Item
items xs a b [] = choices (run a b xs)
items xs a b (k ∷ ks) =
    choices (run a k.choices.start xs) ++
    (count k.lower k.upper (run k.choices.start k.choices.end xs) ∷ items xs k.choices.end b ks)

abbrev pub side_items : List CountRow → List ℕ → Side → List Item
side_items cs xs s = items xs s.entries.start s.entries.end (run s.counts.start s.counts.end cs)

abbrev pub rule_of : List CountRow → List ℕ → RuleRow → Rule
rule_of cs xs r = record { body = side_items cs xs r.body; head = side_items cs xs r.head }

abbrev pub decode : List RuleRow → List CountRow → List ℕ → List Rule
decode [] cs xs = []
decode (r ∷ rs) cs xs = rule_of cs xs r ∷ decode rs cs xs
