-- What is written reads back.
use Rattle.std.specs.Prelude.{◌≡◌, ℕ, ◌^◌, ◌<◌, ◌≤◌, List, length, take}
use Rattle.std.specs.List.{All}
use Rattle.rules.specs.declared.CountRow.{CountRow}
use Rattle.rules.specs.declared.RuleRow.{RuleRow}
use Rattle.rules.specs.Rules.{Item, choice, count, Rule}
use Rattle.rules.specs.Storage.{decode}
use Rattle.rule_file.specs.declared.file.Extent.{Extent}
use Rattle.rule_file.specs.Form.{SpellsFile, Within, File}
use Rattle.rule_store.specs.Storing.{Stored}
use Rattle.rule_text.specs.Writing.{writing}

-- all numbers have at most 64 bits
abbrev pub Small : ℕ → Type 0
Small v = v < 2 ^ 64

abbrev pub SmallItem : Item → Type 0
SmallItem (choice c) = Small c
SmallItem (count k m cs) = Small k × Small m × All Small cs

abbrev pub SmallRule : Rule → Type 0
SmallRule r = All SmallItem r.body × All SmallItem r.head

-- Theorem: what is written spells a file with the same n and the same rules.
abbrev pub WritingsReadBack : Type 0
WritingsReadBack = (n : ℕ) (rs : List Rule) → Small n → Small (length rs) → All SmallRule rs → SpellsFile (writing n rs) n (length rs) rs

-- Theorem: within the limits, it is a file of those rules.
abbrev pub WritingsAreFiles : Type 0
WritingsAreFiles = (n : ℕ) (rs : List Rule) → Within n rs → length (writing n rs) ≤ 65535 → File (writing n rs) n rs

-- Theorem: wherever it is read into storage, the sheet has the same size and the rows mean the same rules. Size and rules
-- settle what a rule book allows and how it reads, so the book read back is equal to the first.
abbrev pub BooksReturn : Type 0
BooksReturn =
    (n : ℕ) (rs : List Rule) → Within n rs → length (writing n rs) ≤ 65535 →
    (x : Extent) (rows : List RuleRow) (counts : List CountRow) (entries : List ℕ) → Stored (writing n rs) x rows counts entries →
    (x.size.value ≡ n) × (decode (take x.rules rows) counts entries ≡ rs)
