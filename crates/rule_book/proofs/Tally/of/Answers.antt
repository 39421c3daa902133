use Rattle.std.proofs.Common.{arith}
use Rattle.book.specs.declared.Mark.TheVariants.{Open, Yes, No}
use Rattle.rule_book.proofs.Steps.{tally_more, tally_all}
use Rattle.rule_book.proofs.Tally.of.Goals as goal
use Rattle.rule_book.proofs.Tally.of.Goals.{in-Yes, in-Open, in-No}

pub loop-choice-preserved : goal.loop-choice-preserved
loop-choice-preserved c =
    elim c.match-mark_at.branch [
      | in-Yes w ↦ let t = tally_more c.args.marks.now c.args.choices.now c.loop-choice.choice-index Yes c.loop-choice-test.true w.in-Yes.ensures in
          (omega (arith, w.yes-is, w.undecided-is), omega (arith, w.yes-is), omega (arith, w.undecided-is))
      | in-Open w ↦ let t = tally_more c.args.marks.now c.args.choices.now c.loop-choice.choice-index Open c.loop-choice-test.true w.in-Open.ensures in
          (omega (arith, w.yes-is, w.undecided-is), omega (arith, w.yes-is), omega (arith, w.undecided-is))
      | in-No w ↦ let t = tally_more c.args.marks.now c.args.choices.now c.loop-choice.choice-index No c.loop-choice-test.true w.in-No.ensures in
          (omega (arith, w.yes-is, w.undecided-is), omega (arith, w.yes-is), omega (arith, w.undecided-is))
    ]

pub returns : goal.returns
returns c =
    let t = tally_all c.args.marks.now c.args.choices.now c.loop-choice.choice-index c.loop-choice-test.false in
    record { yes = omega arith; undecided = omega arith }
