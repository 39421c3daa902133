-- What the check of a file answers.
use Rattle.std.specs.Prelude.{◌≡◌, ℕ, ◌<◌, ◌≤◌, List, length, Ok, Err, Result}
use Rattle.rules.specs.Rules.{Rule}
use Rattle.scan.specs.Bytes.{file_words}
use Rattle.scan.specs.Scans.{ahead}
use Rattle.rule_file.specs.declared.fault.FileCause.TheVariants.{Bytes}
use Rattle.rule_file.specs.declared.fault.FileFault.{FileFault}
use Rattle.rule_file.specs.declared.file.Extent.{Extent}
use Rattle.rule_file.specs.declared.file.FileReader.{FileReader}
use Rattle.rule_file.specs.declared.line.Part.{Part}
use Rattle.rule_file.specs.declared.line.State.TheVariants.{Start}
use Rattle.rule_file.specs.Causes.{FirstFault}
use Rattle.rule_file.specs.Faults.{file_at, located, told_file}
use Rattle.rule_file.specs.Form.{form, words_only, SpellsFile, File}
use Rattle.rule_file.specs.Machine.{Mach, start_mach, Passes}
use Rattle.rule_file.specs.Reader.{none_seen}

-- a reader with the whole file before it
pub record Started (r : FileReader) (bs : List ℕ) : Type 0 where
  pub words : ahead r.scanner ≡ file_words bs
  pub state : r.line.state ≡ Start
  pub size : r.line.size.value ≡ 0
  pub seen : r.line.seen ≡ none_seen
  pub tally : r.tally ≡ record { declared = 0; rules = 0; counts = 0; entries = 0 }

-- The bytes are a file of that size with so many rules.
pub record Accepted (bs : List ℕ) (x : Extent) : Type 0 where
  pub the_rules : List Rule
  pub file : File bs x.size.value the_rules
  pub many : x.rules ≡ length the_rules

-- The bytes are no file, of any size and with any rules. The fault has its line. Too many bytes are told before all else;
-- otherwise the fault is the first one.
pub record Refused (bs : List ℕ) (f : FileFault) : Type 0 where
  pub no_file : (n : ℕ) (rs : List Rule) → File bs n rs → ⊥
  pub line : f ≡ located bs f.fault
  pub bytes : 65535 < length bs → f.fault ≡ file_at Bytes 65535
  pub first : length bs ≤ 65535 → FirstFault bs (told_file f).place (told_file f).number

abbrev pub Checked : List ℕ → Result Extent FileFault → Type 0
Checked bs (Ok x) = Accepted bs x
Checked bs (Err f) = Refused bs f

-- Theorem: bytes spell at most one file.
abbrev pub SpelledOnce : Type 0
SpelledOnce =
    (bs : List ℕ) (n m n' m' : ℕ) (rs rs' : List Rule) → SpellsFile bs n m rs → SpellsFile bs n' m' rs' → (n ≡ n') × (m ≡ m') × (rs ≡ rs')

-- Theorem: at most one answer fits bytes, so that of the check is the only one.
abbrev pub AnsweredOnce : Type 0
AnsweredOnce = (bs : List ℕ) (r r' : Result Extent FileFault) → Checked bs r → Checked bs r' → r ≡ r'

-- Theorem: the machine passes the words of a file as the parts of its form.
abbrev pub PassedAsForm : Type 0
PassedAsForm =
    (bs : List ℕ) (n m : ℕ) (rs : List Rule) (ps : List Part) (z : Mach) → SpellsFile bs n m rs → Passes start_mach (words_only (file_words bs)) ps z → ps ≡ form n m rs
