use Rattle.std.proofs.Common.{ℕ, ◌<◌, List, length, sym, refl, arith}
use Rattle.std.proofs.lemmas.Bool.{eqb-false}
use Rattle.box_text.proofs.Lines.{left_shorter, takes_row, last_row}
use Rattle.box_text.proofs.reader.RowReader.take_row.Goals as goal

pub returns-in-Some : goal.returns-in-Some
returns-in-Some c =
    let bs : List ℕ = c.args.self.now.rest.now in
    let e : ℕ = c.in-Some.end in
    let first = c.in-Some.ensures in
    (takes_row e bs c.without_return.result.now first.0.high (λ k h. first.0.before k (omega arith) h) first.1 c.without_return.ensures.cut c.without_return.ensures.whole, refl, left_shorter _ bs (omega (arith, first.0.high)) (omega arith))

pub returns-in-None : goal.returns-in-None
returns-in-None c =
    let bs : List ℕ = c.args.self.now.rest.now in
    let z = eqb-false (length bs) 0 (sym c.if-is_empty.ensures) in
    let h : 0 < length bs = omega arith in
    (last_row bs h (λ k l. c.in-None.ensures k (omega arith) l), refl, h)
