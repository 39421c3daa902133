-- The texts that programs print.
use Rattle.std.specs.Prelude.{ℕ, List, [], ◌++◌, codes, decimal}
use Rattle.book.specs.declared.Mark.{Mark}
use Rattle.refusal.specs.declared.Refusal.{Refusal}
use Rattle.solver.specs.declared.Ending.{Ending}
use Rattle.solver.specs.declared.Ending.TheVariants.{Found, None, Spent}
use Rattle.solver.specs.declared.Verdict.{Verdict}
use Rattle.printing.specs.declared.Position.{Position}
use Rattle.printing.specs.declared.Position.TheVariants.{Line, Row}
use Rattle.printing.specs.Output.{choice_line}

abbrev pub word : Ending → List ℕ
word Found = codes "found"
word None = codes "none"
word Spent = codes "spent"

-- the line that comes only after found
abbrev pub second_line : Ending → List Mark → List ℕ
second_line Found ms = choice_line ms
second_line None ms = []
second_line Spent ms = []

-- the word and the trials, and after found a line with the yes choices
unfoldable pub verdict_text : Verdict → List Mark → List ℕ
verdict_text v ms = word v.ending ++ (codes " " ++ (decimal v.trials ++ (codes "\n" ++ second_line v.ending ms)))

-- the line or the row
abbrev pub position_text : Position → List ℕ
position_text (Line n) = codes " line " ++ decimal n
position_text (Row n) = codes " row " ++ decimal n

-- a refused sheet: the number of the cause, the place, and the line or row of that
unfoldable pub refusal_text_at : Refusal → Position → List ℕ
refusal_text_at r p = codes "refused " ++ (decimal r.number ++ (codes " at " ++ (decimal r.place ++ (position_text p ++ codes "\n"))))

-- a refused file: the same, with the line
abbrev pub refusal_text : Refusal → ℕ → List ℕ
refusal_text r line = refusal_text_at r (Line line)
