-- What is printed of a sheet.
use Rattle.std.specs.Prelude.{ℕ, List, replicate, Option, Result}
use Rattle.book.specs.declared.Mark.{Mark}
use Rattle.book.specs.declared.Mark.TheVariants.{Open}
use Rattle.book.specs.declared.Reading.{Reading}
use Rattle.printing.specs.Output.{Printed}
use Rattle.printing.specs.Words.{verdict_text, refusal_text}
use Rattle.refusal.specs.declared.At.{At}
use Rattle.refusal.specs.declared.JobCause.{JobCause}
use Rattle.rules.specs.Rules.{Rule}
use Rattle.rule_book.specs.Meaning.{Allowed}
use Rattle.rule_book.specs.Readings.{rules_reading}
use Rattle.rule_file.specs.declared.fault.FileFault.{FileFault}
use Rattle.rule_file.specs.Faults.{told_file}
use Rattle.rule_file.specs.Files.{Refused}
use Rattle.rule_file.specs.Form.{File}
use Rattle.solver.specs.declared.Verdict.{Verdict}
use Rattle.solver.specs.Outcome.{Says, MarksAfter, Means}
use Rattle.solver.specs.Tree.{Explores}

-- The verdict of a search with an allowance over a book, and the marks that go with it.
pub record Verdicts (n : ℕ) (allows : List Mark → Type 0) (reads : List Mark → Reading) (allowance : ℕ) (v : Verdict) (ms : List Mark) : Type 0 where
  pub needed : ℕ
  pub end : Option (List Mark)
  pub explores : Explores reads (replicate n Open) needed end
  pub says : Says needed end allowance v
  pub marks : MarksAfter n v.ending end ms
  pub truth : Means allows v.ending ms

-- the verdict of a search of the book is printed, or the list is too short for it
pub record SearchPrinted (n : ℕ) (allows : List Mark → Type 0) (reads : List Mark → Reading) (allowance : ℕ) (out out' : List ℕ) (r : Result ℕ (At JobCause)) : Type 0 where
  pub verdict : Verdict
  pub marks : List Mark
  pub verdicts : Verdicts n allows reads allowance verdict marks
  pub printed : Printed (verdict_text verdict marks) out out' r

-- What is printed of bytes: where they are no file, their first fault; where they are one, the verdict on the book of its rules.
pub data SheetPrinted (bs : List ℕ) (allowance : ℕ) (out out' : List ℕ) (r : Result ℕ (At JobCause)) : Type 0 where
  refused : (f : FileFault) → Refused bs f → Printed (refusal_text (told_file f) f.line) out out' r → SheetPrinted bs allowance out out' r
  sought : (n : ℕ) (rs : List Rule) → File bs n rs → SearchPrinted n (Allowed n rs) (λ ms. rules_reading ms rs) allowance out out' r → SheetPrinted bs allowance out out' r
