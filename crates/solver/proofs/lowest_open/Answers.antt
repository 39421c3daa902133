use Rattle.std.proofs.Common.{◌≡◌, ◌+◌, true, false, List, ◌∷◌, length, Some, None, rules, arith, refl, add-one}
use Rattle.std.specs.Option.{unwrap_or}
use Rattle.std.proofs.lemmas.Iterator.{YieldsList-from_slice, IsFirst-from_position, index_from_first}
use Rattle.book.specs.declared.Mark.{Mark}
use Rattle.book.specs.Books.{open_mark}
use Rattle.solver.specs.Tree.{first_open}
use Rattle.solver.proofs.lowest_open.Goals as goal

hit : (m : Mark) (ms : List Mark) → open_mark m ≡ true → first_open (m ∷ ms) ≡ 0
hit m ms h = rw h

miss : (m : Mark) (ms : List Mark) → open_mark m ≡ false → first_open (m ∷ ms) ≡ first_open ms + 1
miss m ms h = rw (h, add-one (first_open ms))

pub returns-in_err-place : goal.returns-in_err-place
returns-in_err-place c =
    let k = IsFirst-from_position _ _ c.position.result (λ m. open_mark m ≡ true) (λ m. open_mark m ≡ false) c.position.ensures.ran (YieldsList-from_slice c.args.marks.now (cc)) (λ x q k. search rules) (λ x q k. search rules) in
    let e : first_open c.args.marks.now ≡ unwrap_or c.position.result (length c.args.marks.now) =
    index_from_first first_open (λ m. open_mark m ≡ true) (λ m. open_mark m ≡ false) refl hit miss c.args.marks.now c.position.result k in
    let n : c.position.result ≡ None = c.in_err-place.was in
    rw c.from_residual.ensures (let f = rw n at e in omega arith)

pub returns : goal.returns
returns c =
    let k = IsFirst-from_position _ _ c.position.result (λ m. open_mark m ≡ true) (λ m. open_mark m ≡ false) c.position.ensures.ran (YieldsList-from_slice c.args.marks.now (cc)) (λ x q k. search rules) (λ x q k. search rules) in
    let e : first_open c.args.marks.now ≡ unwrap_or c.position.result (length c.args.marks.now) =
    index_from_first first_open (λ m. open_mark m ≡ true) (λ m. open_mark m ≡ false) refl hit miss c.args.marks.now c.position.result k in
    let n : c.position.result ≡ Some c.in_ok-place.place = c.in_ok-place.was in
    let f = rw n at e in
    let b = rw n at k in
    (omega arith, omega arith)
