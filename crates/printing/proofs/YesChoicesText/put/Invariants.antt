use denote.Text.{Utf8}
use denote.Shadow.{shadow}
use Rattle.output.proofs.Pieces.{Onward}
use Rattle.printing.specs.Output.{choice_line}
use Rattle.printing.proofs.Line.{ahead}
use Rattle.printing.proofs.YesChoicesText.put.Given as goal

abbrev pub invariant-loop-i : goal.invariant-loop-i
invariant-loop-i l =
    shadow (Utf8 l.gap) × Onward l.initial.out l.start (choice_line l.self.marks.now) l.out l.at (ahead l.gap l.i l.self.marks.now)
