use Rattle.std.proofs.Common.{◌≡◌, ℕ, zero, suc, ◌<◌, List, [], ◌∷◌, length, get_or, sym, refl, ◌∙◌, arith}
use Rattle.rules.specs.declared.CountRow.{CountRow}
use Rattle.rule_book.specs.Weighing.{pressure_reading}
use Rattle.rule_book.proofs.Steps.{row_lone_quiet, row_more, row_quiet, rows_all}
use Rattle.rule_book.proofs.RuleBook.weigh_side.Goals as goal

abbrev no_row : CountRow
no_row = record { lower = 0; upper = 0; choices = record { start = 0; end = 0 } }

get_or_self : {A : Type 0} (xs : List A) (i : ℕ) (d : A) → i < length xs → get_or xs i (get_or xs i d) ≡ get_or xs i d
get_or_self [] i d h = refl
get_or_self (x ∷ xs) zero d h = refl
get_or_self (x ∷ xs) (suc i) d h = get_or_self xs i d (omega arith)

pub returns-in_err-pressure : goal.returns-in_err-pressure
returns-in_err-pressure c =
    let rows : List CountRow = c.part-row-items.result.now in
    let i : ℕ = c.loop-row.row-index in
    let e = row_lone_quiet c.args.scale.now.role c.args.scale.now.marks.now c.args.self.now.entries.now c.loop-row.start c.args.side.entries.end rows i (get_or rows i no_row) (pressure_reading c.loop-row.pressure) c.loop-row-test.true (get_or_self rows i no_row c.loop-row-test.true) c.part.result.now c.part.ensures c.in_err-pressure.ensures in
    rw (c.from_residual.ensures, ← c.part-row-items.ensures) (sym (c.loop-row.invariant ∙ e))

pub returns-in_err-pressure-2 : goal.returns-in_err-pressure-2
returns-in_err-pressure-2 c =
    let rows : List CountRow = c.part-row-items.result.now in
    let i : ℕ = c.loop-row.row-index in
    let e = row_quiet c.args.scale.now.role c.args.scale.now.marks.now c.args.self.now.entries.now c.loop-row.start c.args.side.entries.end rows i (get_or rows i no_row) (pressure_reading c.loop-row.pressure) c.loop-row-test.true (get_or_self rows i no_row c.loop-row-test.true) c.part.result.now c.part-in-loop-row.result.now (pressure_reading c.in_ok-pressure.pressure) c.part.ensures c.in_ok-pressure.ensures c.part-in-loop-row.ensures c.in_err-pressure-2.ensures in
    rw (c.from_residual-in_err-pressure-2.ensures, ← c.part-row-items.ensures) (sym (c.loop-row.invariant ∙ e))

pub loop-row-preserved : goal.loop-row-preserved
loop-row-preserved c =
    let rows : List CountRow = c.part-row-items.result.now in
    let i : ℕ = c.loop-row.row-index in
    c.loop-row.invariant ∙
    row_more c.args.scale.now.role c.args.scale.now.marks.now c.args.self.now.entries.now c.loop-row.start c.args.side.entries.end rows i (get_or rows i no_row) (pressure_reading c.loop-row.pressure) c.loop-row-test.true (get_or_self rows i no_row c.loop-row-test.true) c.part.result.now c.part-in-loop-row.result.now (pressure_reading c.in_ok-pressure.pressure) (pressure_reading c.in_ok-pressure-2.pressure) c.part.ensures c.in_ok-pressure.ensures c.part-in-loop-row.ensures c.in_ok-pressure-2.ensures

pub returns : goal.returns
returns c =
    let rows : List CountRow = c.part-row-items.result.now in
    let e = rows_all c.args.scale.now.role c.args.scale.now.marks.now c.args.self.now.entries.now c.loop-row.start c.args.side.entries.end rows c.loop-row.row-index (pressure_reading c.loop-row.pressure) c.part-2.result.now _ c.loop-row-test.false c.part-2.ensures c.choices-2.ensures in
    rw (← c.part-row-items.ensures) (sym (c.loop-row.invariant ∙ e))
