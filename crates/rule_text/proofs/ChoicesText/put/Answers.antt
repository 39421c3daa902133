use Rattle.std.proofs.Common.{◌+◌, take, drop, sym}
use Rattle.std.proofs.lemmas.List.{take_all}
use Rattle.std.proofs.lemmas.List.Elements.{All-same, All-more}
use Rattle.output.proofs.Pieces.{onward, onward_cut, nothing}
use Rattle.rule_text.specs.Writing.{numerals}
use Rattle.rule_text.specs.Padding.{all_padded}
use Rattle.rule_text.specs.Back.{Small}
use Rattle.rule_text.proofs.Lines.{choices_more, choices_all}
use Rattle.rule_text.proofs.ChoicesText.put.Goals as goal

pub returns-in_err-at-clause-text : goal.returns-in_err-at-clause-text
returns-in_err-at-clause-text c =
    rw c.from_residual.ensures (onward_cut (all_padded c.args.self.now.spacing (numerals (drop (c.loop-choice.choice-index + 1) c.args.self.now.choices.now))) _ c.loop-choice.invariant.0 (choices_more c.args.self.now.spacing c.args.self.now.choices.now c.loop-choice.choice-index c.loop-choice-test.true) c.in_err-at.ensures.text)

pub loop-choice-preserved : goal.loop-choice-preserved
loop-choice-preserved c = (
  onward c.loop-choice.invariant.0 (choices_more c.args.self.now.spacing c.args.self.now.choices.now c.loop-choice.choice-index c.loop-choice-test.true) c.in_ok-at.ensures.text,
  All-more Small c.args.self.now.choices.now c.loop-choice.choice-index 0 c.loop-choice-test.true c.loop-choice.invariant.1 c.in_ok-at.ensures.known,
)

pub returns-clause-text : goal.returns-clause-text
returns-clause-text c =
    c.loop-choice.invariant.0 _ _ (nothing (choices_all c.args.self.now.spacing c.args.self.now.choices.now c.loop-choice.choice-index c.loop-choice-test.false))

pub returns-clause-known : goal.returns-clause-known
returns-clause-known c =
    All-same Small c.args.self.now.choices.now (take c.loop-choice.choice-index c.args.self.now.choices.now) (sym (take_all c.loop-choice.choice-index c.args.self.now.choices.now c.loop-choice-test.false)) c.loop-choice.invariant.1
