use Rattle.std.proofs.Common.{◌≡◌, ℕ, true, false, not, List, length, replicate, refl, sym, ap, ◌∙◌, inl, inr, arith}
use Rattle.book.specs.declared.Mark.TheVariants.{Open}
use denote.Enum.Bare.{sameb}
use Rattle.solver.specs.contracts.Ending.{the_type}
use Rattle.solver.specs.declared.Ending.{Ending}
use Rattle.solver.specs.declared.Ending.TheVariants.{Found, None, Spent}
use Rattle.solver.proofs.Outcomes.{tree_laws, means, finished}
use Rattle.solver.proofs.Sameness.{alike}
use Rattle.solver.proofs.search.Goals as goal
use Rattle.solver.proofs.search.Goals.{then-ne, else-ne}

pub returns-then-marks-n : goal.returns-then-marks-n
returns-then-marks-n g c =
    record {
      does = record {
        fault = refl;
        unfit = λ h. elim c.then-marks-n.either [ inl e ↦ omega (arith, h.0, c.choices-n.ensures) | inr e ↦ omega (arith, e.1, h.1, c.choices-n.ensures) ];
        marks_kept = refl;
        work_kept = refl;
      };
      truth = tt;
      alike = alike _ _;
      tree = tree_laws _ _ _ (g.met.B.Book.lawful c.args.book.now);
    }

-- what `!=` tells
differs : (v : Ending) → not (sameb the_type v Found) ≡ true → v ≡ Found → ⊥
differs v h found = let e : not (sameb the_type v Found) ≡ false = ap (λ w. not (sameb the_type w Found)) found in cc

agrees : (v : Ending) → not (sameb the_type v Found) ≡ false → v ≡ Found
agrees Found h = refl
agrees None h = cc
agrees Spent h = cc

filled : {A : Type 0} (k n : ℕ) (v : A) (xs : List A) → k ≡ n → xs ≡ replicate k v → xs ≡ replicate n v
filled k n v xs e h = h ∙ ap (λ (j : ℕ). replicate j v) e

pub returns : goal.returns
returns g c =
    let laws = g.met.B.Book.lawful c.args.book.now in
    let n : ℕ = g.B.Book.size c.args.book.now in
    let lm : length c.args.marks.now ≡ n = omega (arith, c.if-marks-n.false, c.choices-n.ensures) in
    let lw : length c.args.work.now ≡ n = omega (arith, c.if-work-n.false, c.choices-n.ensures) in
    let zeros : c.fill-2.new.self ≡ replicate n 0 = filled (length c.run-verdict.new.work) n 0 c.fill-2.new.self (omega (arith, c.run-verdict.auto.work)) (c.fill-2.ensures.after (λ y e. e)) in
    let ne = c.ne.ensures in
    let kept : c.run-verdict.result.ending ≡ Found → c.if-ne.marks ≡ c.run-verdict.new.marks =
    λ found. elim c.if-ne.branch [ then-ne w ↦ absurd (differs c.run-verdict.result.ending (sym ne ∙ w.if-ne.true) found) | else-ne w ↦ w.marks-is ] in
    let cleared : (c.run-verdict.result.ending ≡ Found → ⊥) → c.if-ne.marks ≡ replicate n Open =
    λ apart. elim c.if-ne.branch [
      | then-ne w ↦ filled (length c.run-verdict.new.marks) n Open c.if-ne.marks (omega (arith, c.run-verdict.auto.marks, c.fill.auto.self)) (w.marks-is ∙ w.fill-then-ne.ensures.after (λ y e. e))
      | else-ne w ↦ absurd (apart (agrees c.run-verdict.result.ending (sym ne ∙ w.if-ne.false)))
    ] in
    record {
      does =
          finished n _ _ laws c.args.allowance c.run-verdict.result c.run-verdict.new.marks c.run-verdict.ensures c.if-ne.marks kept c.args.marks.now c.args.work.now c.fill-2.new.self lm lw cleared
          zeros;
      truth = means n _ _ laws c.args.allowance c.run-verdict.result c.run-verdict.new.marks c.run-verdict.ensures c.if-ne.marks kept;
      alike = alike _ _;
      tree = tree_laws _ _ _ laws;
    }
