use Rattle.std.proofs.Common.{◌≡◌, ℕ, List, ◌++◌, length, codes, decimal, ap, subst, arith}
use Rattle.std.specs.List.{All}
use Rattle.output.proofs.Pieces.{same_text, and_then, cut, onward, onward_cut, nothing}
use Rattle.rules.specs.declared.RuleRow.{RuleRow}
use Rattle.rule_book.specs.declared.RuleBook.{RuleBook}
use Rattle.rule_book.specs.Meaning.{rules_of, size_of}
use Rattle.rule_text.specs.Writing.{rule_lines, writing}
use Rattle.rules.specs.Storage.{decode}
use Rattle.rule_text.specs.Back.{Small, SmallRule}
use Rattle.rule_text.proofs.Bounds.{rule_small, rules_end}
use Rattle.rule_text.proofs.Lines.{rules_more, rules_all, writing_text, length_decode}
use Rattle.rule_text.proofs.Spelling.{reads_back}
use Rattle.rule_text.proofs.BookFileText.put.Goals as goal

whole : (b : RuleBook) (n : ℕ) (rs : List RuleRow) → n ≡ size_of b → rs ≡ b.rules.now → writing (size_of b) (rules_of b) ≡ ((codes "p " ++ decimal n) ++ ((codes " " ++ decimal (length rs)) ++ codes "\n")) ++ rule_lines (rules_of b)
whole b n rs en er = rw (en, er) (writing_text (size_of b) b.rules.now b.counts.now b.entries.now)

abbrev no_row : RuleRow
no_row = record {
  body = record { entries = record { start = 0; end = 0 }; counts = record { start = 0; end = 0 } };
  head = record { entries = record { start = 0; end = 0 }; counts = record { start = 0; end = 0 } };
}

pub returns-in_err-at-clause-text : goal.returns-in_err-at-clause-text
returns-in_err-at-clause-text c =
    rw c.from_residual.ensures (same_text (whole c.args.self.now.book.now c.choices.result c.rules-rules.result.now c.choices.ensures c.rules-rules.ensures) (cut _ _ c.in_err-at.ensures.text))

pub returns-in_err-at-2-clause-text : goal.returns-in_err-at-2-clause-text
returns-in_err-at-2-clause-text c =
    let text = rules_more c.rules-rules.result.now c.args.self.now.book.now.counts.now c.args.self.now.book.now.entries.now c.loop-row.row-index no_row c.loop-row-test.true in
    rw c.from_residual-in_err-at-2.ensures
    (same_text (whole c.args.self.now.book.now c.choices.result c.rules-rules.result.now c.choices.ensures c.rules-rules.ensures) (and_then c.in_ok-at.ensures.text (rw (← c.rules-rules.ensures) (onward_cut _ _ c.loop-row.invariant.0 text c.in_err-at-2.ensures.text))))

pub loop-row-preserved : goal.loop-row-preserved
loop-row-preserved c =
    let text = rules_more c.rules-rules.result.now c.args.self.now.book.now.counts.now c.args.self.now.book.now.entries.now c.loop-row.row-index no_row c.loop-row-test.true in (
      onward c.loop-row.invariant.0 text c.in_ok-at-2.ensures.text,
      λ rest. c.loop-row.invariant.1 (rule_small c.rules-rules.result.now c.args.self.now.book.now.counts.now c.args.self.now.book.now.entries.now c.loop-row.row-index no_row c.loop-row-test.true c.in_ok-at-2.ensures.known rest),
    )

pub returns : goal.returns
returns c =
    let small = c.in_ok-at.ensures.known in
    let many : Small (length (rules_of c.args.self.now.book.now)) = omega (arith, length_decode c.args.self.now.book.now.rules.now c.args.self.now.book.now.counts.now c.args.self.now.book.now.entries.now, small.1.1, ap length c.rules-rules.ensures) in
    let all = c.loop-row.invariant.1 (rules_end c.rules-rules.result.now c.args.self.now.book.now.counts.now c.args.self.now.book.now.entries.now c.loop-row.row-index c.loop-row-test.false) in
    record {
      text = same_text (whole c.args.self.now.book.now c.choices.result c.rules-rules.result.now c.choices.ensures c.rules-rules.ensures) (and_then c.in_ok-at.ensures.text (rw (← c.rules-rules.ensures) (c.loop-row.invariant.0 _ _ (nothing (rules_all c.rules-rules.result.now c.args.self.now.book.now.counts.now c.args.self.now.book.now.entries.now c.loop-row.row-index c.loop-row-test.false)))));
      known = reads_back (size_of c.args.self.now.book.now) (rules_of c.args.self.now.book.now) (omega (arith, small.0.1, c.choices.ensures)) many (subst (λ (rs : List RuleRow). All SmallRule (decode rs c.args.self.now.book.now.counts.now c.args.self.now.book.now.entries.now)) c.rules-rules.ensures all);
    }
