use Rattle.std.proofs.Common.{◌≡◌, ℕ, List, Option, rules, sym, ap, ◌∙◌}
use Rattle.rules.specs.declared.CountRow.{CountRow}
use Rattle.rules.specs.declared.RuleRow.{RuleRow}
use Rattle.rule_file.proofs.Ends.{not_end}
use Rattle.rule_file.specs.declared.file.Tally.{Tally}
use Rattle.rule_file.specs.declared.line.Part.TheVariants.{End}
use Rattle.rule_store.specs.declared.fill.Row.{Row}
use Rattle.rule_store.specs.Filling.{filler_after, row_of, rules_put, counts_put, entries_put, unfilled, fresh}
use Rattle.rule_store.proofs.Going.{store_at, going_more, going_stops}
use Rattle.rule_store.proofs.fill.fill.Goals as goal
use Rattle.rule_store.proofs.fill.fill.Goals.{in-Some, in_default-take}

-- the lists once a row, if there is one, is put into its list
abbrev Put : Option Row → List RuleRow → List CountRow → List ℕ → List RuleRow → List CountRow → List ℕ → Type 0
Put o rs cs xs rs' cs' xs' = (rs' ≡ rules_put o rs) × (cs' ≡ counts_put o cs) × (xs' ≡ entries_put o xs)

pub loop-part-preserved : goal.loop-part-preserved
loop-part-preserved c =
    let l = c.loop-part in
    let m = c.match-take in
    let p = c.in-Ok.part in
    let t : l.tally ≡ l.reader.tally = l.invariant.1 in
    let other : p ≡ End → ⊥ = search rules in
    let put : Put c.take.result l.rules l.counts l.entries m.rules m.counts m.entries = elim c.match-take.branch [
      | in-Some w ↦
          let row = sym w.in-Some.is in
          (w.rules-is ∙ w.put.ensures.rules ∙ ap (λ o. rules_put o l.rules) row, w.counts-is ∙ w.put.ensures.counts ∙ ap (λ o. counts_put o l.counts) row, w.entries-is ∙ w.put.ensures.entries ∙ ap (λ o. entries_put o l.entries) row)
      | in_default-take w ↦
          let none = sym w.in_default-take.is in
          (w.rules-is ∙ ap (λ o. rules_put o l.rules) none, w.counts-is ∙ ap (λ o. counts_put o l.counts) none, w.entries-is ∙ ap (λ o. entries_put o l.entries) none)
    ] in
    let row : c.take.result ≡ row_of l.filler l.reader.tally p = c.take.ensures.row ∙ ap (λ (k : Tally). row_of l.filler k p) t in (
      going_more c.args.bytes.now (unfilled fresh c.args.rules.now c.args.counts.now c.args.entries.now) l.reader c.next_part.new.self p l.filler c.take.new.self l.rules m.rules l.counts m.counts l.entries m.entries c.in-Ok.ensures.moves (not_end _ other)
          (c.take.ensures.filler ∙ ap (λ (k : Tally). filler_after l.filler k p) t) (put.0 ∙ ap (λ (o : Option Row). rules_put o l.rules) row)
          (put.1 ∙ ap (λ (o : Option Row). counts_put o l.counts) row) (put.2 ∙ ap (λ (o : Option Row). entries_put o l.entries) row) l.invariant.0,
      c.tally-tally-in-Ok.ensures,
    )

pub returns : goal.returns
returns c =
    let l = c.loop-part in
    going_stops c.args.bytes.now (unfilled fresh c.args.rules.now c.args.counts.now c.args.entries.now) l.reader (store_at l.filler l.reader l.rules l.counts l.entries) c.in_default.field-0 c.args.rules.now l.rules c.args.counts.now l.counts c.args.entries.now l.entries c.in_default.ensures.moves l.invariant.0
