use Rattle.std.proofs.Common.{◌≡◌, ◌⊎◌, List, [], inl, inr, append_assoc}
use Rattle.book.specs.declared.Mark.{Mark}
use Rattle.solver.specs.declared.Ending.{Ending}
use Rattle.solver.specs.declared.Ending.TheVariants.{None, Spent}
use Rattle.output.proofs.Pieces.{same_text}
use Rattle.printing.specs.Words.{second_line, verdict_text}
use Rattle.printing.proofs.SearchText.put.Goals as goal

no_second_line : (e : Ending) (ms : List Mark) → (e ≡ None) ⊎ (e ≡ Spent) → second_line e ms ≡ []
no_second_line e ms (inl h) = rw h
no_second_line e ms (inr h) = rw h

pub returns-in-Found-clause-text : goal.returns-in-Found-clause-text
unfolding verdict_text
returns-in-Found-clause-text c = same_text (rw (c.word_of.ensures, c.in-Found.is) (simp append_assoc)) c.put.ensures.text

pub returns-in-None-clause-text : goal.returns-in-None-clause-text
unfolding verdict_text
returns-in-None-clause-text c =
    same_text (rw (c.word_of.ensures, no_second_line c.args.self.now.verdict.ending c.args.self.now.marks.now c.in-None.is)) c.put-in-None.ensures.text
