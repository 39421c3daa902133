use Rattle.std.proofs.Common.{arith}
use Rattle.rule_book.specs.Marks.{mark_at_in, mark_at_none}
use Rattle.rule_book.proofs.mark_at.Goals as goal
use Rattle.rule_book.proofs.mark_at.Goals.{then-choice-eq0-via-then-choice-eq0, then-choice-eq0-via-else-choice-eq0+then-choice-marks}

pub returns-then-choice-eq0 : goal.returns-then-choice-eq0
returns-then-choice-eq0 c =
    elim c.then-choice-eq0.branch [
      | then-choice-eq0-via-then-choice-eq0 w ↦ mark_at_none c.args.marks.now c.args.choice (λ h. absurd (omega arith))
      | then-choice-eq0-via-else-choice-eq0+then-choice-marks w ↦ mark_at_none c.args.marks.now c.args.choice (λ h. omega arith)
    ]

pub returns : goal.returns
returns c = mark_at_in c.args.marks.now c.args.choice (omega arith) (omega arith)
