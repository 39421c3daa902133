use Rattle.std.proofs.Common.{◌≡◌, ℕ, suc, ◌+◌, ◌-◌, List, ◌∷◌, length, get_or, take, drop, Some, Option, refl, sym, ap, ◌∙◌, add-one, arith, Bor}
use Rattle.std.specs.Str.TwoWay.{NoneBefore}
use Rattle.std.proofs.lemmas.List.{take_rest}
use Rattle.box_text.specs.Rows.{cells, cells_of}
use Rattle.box_text.proofs.Cuts.{cut_cell, last_cell}
use Rattle.box_text.proofs.reading.CellsIterator.next.Goals as goal

-- the first cell goes up to the first comma
step :
    (bs : List ℕ) (e : ℕ) (rest : Option (Bor (List ℕ))) (b : Bor (List ℕ)) → rest ≡ Some b → b.now ≡ bs → NoneBefore (λ k. get_or bs k 0 ≡ 44) 0 (length bs) e → get_or bs e 0 ≡ 44 →
    cells_of rest ≡ take e bs ∷ cells (take (length bs - (e + 1)) (drop (e + 1) bs))
step bs e rest b was now first found =
    let after : cells (drop (suc e) bs) ≡ cells (take (length bs - (e + 1)) (drop (e + 1) bs)) = sym (ap cells (take_rest bs (e + 1)) ∙ ap (λ z. cells (drop z bs)) (add-one e)) in
    ap cells_of was ∙ ap cells now ∙ cut_cell e bs first.high (λ k h. first.before k (omega arith) h) found ∙ ap (λ z. take e bs ∷ z) after

pub returns-in-Some-clause-steps : goal.returns-in-Some-clause-steps
returns-in-Some-clause-steps c = let first = c.in-Some.ensures in step c.in_ok-rest.rest.now c.in-Some.comma c.args.self.now.rest c.in_ok-rest.rest c.in_ok-rest.was refl first.0 first.1

pub returns-in-Some-clause-goes : goal.returns-in-Some-clause-goes
returns-in-Some-clause-goes c =
    let first = c.in-Some.ensures in
    let cut = step c.in_ok-rest.rest.now c.in-Some.comma c.args.self.now.rest c.in_ok-rest.rest c.in_ok-rest.was refl first.0 first.1 in
    record { on = λ _. (tt, tt, omega (arith, ap length cut)); keeps = tt; rests = λ _. tt }

pub returns-in-None-clause-steps : goal.returns-in-None-clause-steps
returns-in-None-clause-steps c =
    let bs : List ℕ = c.in_ok-rest.rest.now in
    ap cells_of c.in_ok-rest.was ∙ last_cell bs (λ k h. c.in-None.ensures k (omega arith) h)
