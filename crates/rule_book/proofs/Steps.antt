-- The steps of the loops: what is left of a list from an index on.
use Rattle.std.proofs.Common.{◌≡◌, ℕ, ◌+◌, ◌<◌, ◌≤◌, List, ◌∷◌, ◌++◌, length, get_or, drop, sym, ap, ◌∙◌}
use Rattle.std.proofs.lemmas.List.{at_drop_more, at_drop_all}
use Rattle.book.specs.declared.Mark.{Mark}
use Rattle.book.specs.declared.Reading.{Reading}
use Rattle.book.specs.declared.Reading.TheVariants.{Quiet}
use Rattle.rules.specs.declared.CountRow.{CountRow}
use Rattle.rules.specs.Rules.{Item, count, mark_at, yeses}
use Rattle.rules.specs.Storage.{run, choices, items}
use Rattle.rule_book.specs.declared.Role.{Role}
use Rattle.rule_book.specs.Readings.{opens}
use Rattle.rule_book.specs.Weighing.{weigh, weigh_item}
use Rattle.rule_book.specs.Grown.{yes_step, open_step}
use Rattle.rule_book.specs.Fold.{weigh_quiet, weigh_append}

-- one choice more of a tally, by its mark
pub tally_more : (ms : List Mark) (cs : List ℕ) (i : ℕ) (m : Mark) → i < length cs → m ≡ mark_at ms (get_or cs i 0) → (yeses ms (drop i cs) ≡ yes_step m + yeses ms (drop (i + 1) cs)) × (opens ms (drop i cs) ≡ open_step m + opens ms (drop (i + 1) cs))
tally_more ms cs i m h e = (
  at_drop_more (yeses ms) cs i 0 h ∙ ap (λ (x : Mark). yes_step x + yeses ms (drop (i + 1) cs)) (sym e),
  at_drop_more (opens ms) cs i 0 h ∙ ap (λ (x : Mark). open_step x + opens ms (drop (i + 1) cs)) (sym e),
)

pub tally_all : (ms : List Mark) (cs : List ℕ) (i : ℕ) → length cs ≤ i → (yeses ms (drop i cs) ≡ 0) × (opens ms (drop i cs) ≡ 0)
tally_all ms cs i h = (at_drop_all (yeses ms) cs i h, at_drop_all (opens ms) cs i h)

-- the counts of a side: the choices before a count, and then the count
module _ (o : Role) (ms : List Mark) (xs : List ℕ) (a b : ℕ) (ks : List CountRow) (i : ℕ) (k : CountRow) (r : Reading) (lt : i < length ks) (at : get_or ks i k ≡ k) where
  row_lone : (l : List ℕ) (s : Reading) → l ≡ run a k.choices.start xs → s ≡ weigh o ms (choices l) r → weigh o ms (items xs a b (drop i ks)) r ≡ weigh o ms (items xs k.choices.end b (drop (i + 1) ks)) (weigh_item o ms (count k.lower k.upper (run k.choices.start k.choices.end xs)) s)
  row_lone l s el es =
      let rest : CountRow → List Item = λ j. count j.lower j.upper (run j.choices.start j.choices.end xs) ∷ items xs j.choices.end b (drop (i + 1) ks) in
      at_drop_more (λ (js : List CountRow). weigh o ms (items xs a b js) r) ks i k lt ∙
      ap (λ (j : CountRow). weigh o ms (choices (run a j.choices.start xs) ++ rest j) r) at ∙
      weigh_append o ms (choices (run a k.choices.start xs)) (rest k) r ∙
      ap (λ (y : List ℕ). weigh o ms (rest k) (weigh o ms (choices y) r)) (sym el) ∙
      ap (λ (y : Reading). weigh o ms (rest k) y) (sym es)

  pub row_lone_quiet : (l : List ℕ) → l ≡ run a k.choices.start xs → Quiet ≡ weigh o ms (choices l) r → weigh o ms (items xs a b (drop i ks)) r ≡ Quiet
  row_lone_quiet l el es =
      row_lone l Quiet el es ∙
      weigh_quiet o ms (count k.lower k.upper (run k.choices.start k.choices.end xs) ∷ items xs k.choices.end b (drop (i + 1) ks))

  pub row_more : (l cs : List ℕ) (s t : Reading) → l ≡ run a k.choices.start xs → s ≡ weigh o ms (choices l) r → cs ≡ run k.choices.start k.choices.end xs → t ≡ weigh_item o ms (count k.lower k.upper cs) s → weigh o ms (items xs a b (drop i ks)) r ≡ weigh o ms (items xs k.choices.end b (drop (i + 1) ks)) t
  row_more l cs s t el es ec et =
      row_lone l s el es ∙
      ap (λ (y : List ℕ). weigh o ms (items xs k.choices.end b (drop (i + 1) ks)) (weigh_item o ms (count k.lower k.upper y) s)) (sym ec) ∙
      ap (weigh o ms (items xs k.choices.end b (drop (i + 1) ks))) (sym et)

  pub row_quiet : (l cs : List ℕ) (s : Reading) → l ≡ run a k.choices.start xs → s ≡ weigh o ms (choices l) r → cs ≡ run k.choices.start k.choices.end xs → Quiet ≡ weigh_item o ms (count k.lower k.upper cs) s → weigh o ms (items xs a b (drop i ks)) r ≡ Quiet
  row_quiet l cs s el es ec et = row_more l cs s Quiet el es ec et ∙ weigh_quiet o ms (items xs k.choices.end b (drop (i + 1) ks))

pub rows_all : (o : Role) (ms : List Mark) (xs : List ℕ) (a b : ℕ) (ks : List CountRow) (i : ℕ) (r : Reading) (l : List ℕ) (s : Reading) → length ks ≤ i → l ≡ run a b xs → s ≡ weigh o ms (choices l) r → weigh o ms (items xs a b (drop i ks)) r ≡ s
rows_all o ms xs a b ks i r l s h el es =
    at_drop_all (λ (js : List CountRow). weigh o ms (items xs a b js) r) ks i h ∙ ap (λ (y : List ℕ). weigh o ms (choices y) r) (sym el) ∙ sym es
