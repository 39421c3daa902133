-- What the reading of a file into storage answers.
use Rattle.std.specs.Prelude.{◌≡◌, ℕ, ◌≤◌, List, length, replicate, take, Ok, Err, Result}
use Rattle.rules.specs.declared.CountRow.{CountRow}
use Rattle.rules.specs.declared.RuleRow.{RuleRow}
use Rattle.rules.specs.Rules.{Rule}
use Rattle.rules.specs.Storage.{decode}
use Rattle.rule_file.specs.declared.fault.FileCause.TheVariants.{Storage}
use Rattle.rule_file.specs.declared.fault.FileFault.{FileFault}
use Rattle.rules.specs.declared.TheConstants.{NO_RULE, NO_COUNT}
use Rattle.rule_file.specs.declared.file.Extent.{Extent}
use Rattle.rule_file.specs.Faults.{file_at, located}
use Rattle.rule_file.specs.Files.{Refused}
use Rattle.rule_file.specs.Form.{File}
use Rattle.rule_store.specs.declared.Storage.{Storage as FullStorage}

-- storage of the full size: for 2,048 rules, 1,024 counts and 16,384 entries
abbrev pub Full : ℕ → ℕ → ℕ → Type 0
Full rules counts entries = (2048 ≤ rules) × (1024 ≤ counts) × (16384 ≤ entries)

-- The bytes are a file of that size with so many rules, and the first rows of the storage mean its rules.
pub record Stored (bs : List ℕ) (x : Extent) (rows : List RuleRow) (counts : List CountRow) (entries : List ℕ) : Type 0 where
  pub the_rules : List Rule
  pub file : File bs x.size.value the_rules
  pub many : x.rules ≡ length the_rules
  pub means : decode (take x.rules rows) counts entries ≡ the_rules

-- Too little storage is told before anything else; then a file is refused as its check says.
pub record NotStored (bs : List ℕ) (rules counts entries : ℕ) (f : FileFault) : Type 0 where
  pub small : (Full rules counts entries → ⊥) → f ≡ located bs (file_at Storage 0)
  pub checked : Full rules counts entries → Refused bs f

-- What a reading answers, by the storage before it and after it. A refusal leaves the storage as it was.
abbrev pub Read : List ℕ → List RuleRow → List CountRow → List ℕ → List RuleRow → List CountRow → List ℕ → Result Extent FileFault → Type 0
Read bs rows counts entries rows' counts' entries' (Ok x) = Full (length rows) (length counts) (length entries) × Stored bs x rows' counts' entries'
Read bs rows counts entries rows' counts' entries' (Err f) =
    NotStored bs (length rows) (length counts) (length entries) f × (rows' ≡ rows) × (counts' ≡ counts) × (entries' ≡ entries)

-- storage with rows of nothing alone
abbrev pub IsBlank : FullStorage → Type 0
IsBlank s = (s.rules ≡ replicate 2048 NO_RULE) × (s.counts ≡ replicate 1024 NO_COUNT) × (s.entries ≡ replicate 16384 0)
