use Rattle.output.proofs.Pieces.{same_text}
use Rattle.rule_text.proofs.Lines.{count_text}
use Rattle.rule_text.proofs.CountText.put.Goals as goal

pub returns-clause-text : goal.returns-clause-text
returns-clause-text c =
    same_text (count_text c.args.self.now.spacing c.args.self.now.row.lower c.args.self.now.row.upper c.args.self.now.choices.now) c.put.ensures.text
