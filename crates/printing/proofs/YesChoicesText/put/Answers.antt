use Rattle.std.proofs.Common.{◌+◌, [], ◌∷◌, codes, refl}
use Rattle.output.proofs.Pieces.{onward, onward_cut, onward_same}
use Rattle.printing.proofs.Line.{ahead, at_start, at_yes, at_other, at_end}
use Rattle.printing.proofs.YesChoicesText.put.Goals as goal
use Rattle.printing.proofs.YesChoicesText.put.Goals.{in-Yes+in_ok-at, in_default}

pub loop-i-init : goal.loop-i-init
loop-i-init c = (([], (refl, refl)), onward_same (λ out' r w. w) (at_start c.args.self.now.marks.now))

pub returns-in_err-at-clause-text : goal.returns-in_err-at-clause-text
returns-in_err-at-clause-text c =
    rw c.from_residual.ensures (onward_cut (ahead (codes " ") (c.loop-i.i + 1) c.args.self.now.marks.now) _ c.loop-i.invariant.1 (at_yes c.loop-i.gap.now c.loop-i.i c.args.self.now.marks.now c.loop-i-test.true c.in-Yes.is) c.in_err-at.ensures.text)

pub loop-i-preserved : goal.loop-i-preserved
unfolding lib.Utf8.encode
loop-i-preserved c =
    elim c.match-mark.branch [
      | in-Yes+in_ok-at w ↦
          rw (w.gap-is, w.at-is, w.out-is)
          ((32 ∷ [], (refl, refl)), onward c.loop-i.invariant.1 (at_yes c.loop-i.gap.now c.loop-i.i c.args.self.now.marks.now c.loop-i-test.true w.in-Yes.is) w.in_ok-at.ensures.text)
      | in_default w ↦
          rw (w.gap-is, w.at-is, w.out-is)
          (c.loop-i.invariant.0, onward_same c.loop-i.invariant.1 (at_other c.loop-i.gap.now c.loop-i.i c.args.self.now.marks.now c.loop-i-test.true w.in_default.not-Yes))
    ]

pub returns-clause-text : goal.returns-clause-text
returns-clause-text c = onward_same c.loop-i.invariant.1 (at_end _ _ _ c.loop-i-test.false) _ _ c.put-2.ensures.text
