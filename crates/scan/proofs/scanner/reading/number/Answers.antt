use Rattle.std.proofs.Common.{ℕ, ◌≤◌, List, get_or, arith, rules}
use Rattle.std.proofs.lemmas.List.{take_rest}
use Rattle.scan.proofs.Steps.{digit_taken}
use Rattle.scan.proofs.scanner.reading.number.Goals as goal

pub loop-rest-preserved : goal.loop-rest-preserved
loop-rest-preserved c =
    let rest : List ℕ = c.loop-rest.rest.now in
    let low : 48 ≤ get_or rest 0 0 = search rules in
    let high : get_or rest 0 0 ≤ 57 = search rules in
    rw take_rest (digit_taken c.args.bytes.now rest c.loop-rest.value c.min-value.result c.loop-rest.invariant (omega arith) (low, high) (λ g. omega arith) (λ g. omega arith) (omega arith))
