use Rattle.output.proofs.Pieces.{same_text}
use Rattle.rules.specs.Storage.{rule_of}
use Rattle.rule_text.proofs.Lines.{text_of_rule}
use Rattle.rule_text.proofs.RuleLineText.put.Goals as goal

pub returns-clause-text : goal.returns-clause-text
returns-clause-text c =
    same_text (text_of_rule (rule_of c.args.self.now.book.now.counts.now c.args.self.now.book.now.entries.now c.args.self.now.row)) c.put.ensures.text
