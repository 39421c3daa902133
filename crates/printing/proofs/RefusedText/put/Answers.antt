use Rattle.std.proofs.Common.{append_assoc}
use Rattle.output.proofs.Pieces.{same_text}
use Rattle.printing.specs.Words.{refusal_text_at}
use Rattle.printing.proofs.RefusedText.put.Goals as goal

pub returns-clause-text : goal.returns-clause-text
unfolding refusal_text_at
returns-clause-text c = same_text (simp append_assoc) c.put.ensures.text
