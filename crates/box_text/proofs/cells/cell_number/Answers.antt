use Rattle.std.proofs.Common.{ℕ, ◌+◌, ◌*◌, ◌≤◌, List, get_or, sym, ◌∙◌, arith, rules}
use Rattle.box_text.proofs.CellSteps.{leads_out, above}
use Rattle.box_text.proofs.cells.cell_number.Goals as goal

pub returns-in_err-checked_mul : goal.returns-in_err-checked_mul
returns-in_err-checked_mul c =
    let bs : List ℕ = c.loop-rest.rest.now in
    let v : ℕ = c.loop-rest.value in
    let low : 48 ≤ get_or bs 0 0 = search rules in
    let high : get_or bs 0 0 ≤ 57 = search rules in
    let big = above c.checked_mul.result (v * 10) c.checked_mul.ensures (search rules) in
    (search rules) ∙ sym (c.loop-rest.invariant ∙ leads_out bs v (omega arith) low high (omega arith))

pub returns-in_err-value : goal.returns-in_err-value
returns-in_err-value c =
    let bs : List ℕ = c.loop-rest.rest.now in
    let v : ℕ = c.loop-rest.value in
    let low : 48 ≤ get_or bs 0 0 = search rules in
    let high : get_or bs 0 0 ≤ 57 = search rules in
    let ten = c.in_ok-checked_mul.ensures in
    let big = above c.checked_add.result (c.in_ok-checked_mul.field-0 + c.from.result) c.checked_add.ensures (search rules) in
    (search rules) ∙ sym (c.loop-rest.invariant ∙ leads_out bs v (omega arith) low high (omega (arith, ten.1, c.from.ensures)))
