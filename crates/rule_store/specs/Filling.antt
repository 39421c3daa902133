-- How the parts of a file fill the storage.
use Rattle.std.specs.Prelude.{◌≡◌, ℕ, List, [], ◌∷◌, Some, None, Option, slice_set}
use Rattle.rules.specs.declared.CountRow.{CountRow}
use Rattle.rules.specs.declared.RuleRow.{RuleRow}
use Rattle.rules.specs.declared.Side.{Side}
use Rattle.rule_file.specs.declared.file.Tally.{Tally}
use Rattle.rule_file.specs.declared.line.Part.{Part}
use Rattle.rule_file.specs.declared.line.Part.TheVariants as part
use Rattle.rule_file.specs.Form.{words_only}
use Rattle.rule_file.specs.Machine.{Mach, Passes, start_mach}
use Rattle.rule_file.specs.Reader.{counted}
use Rattle.scan.specs.Bytes.{file_words}
use Rattle.rule_store.specs.declared.fill.Filler.{Filler}
use Rattle.rule_store.specs.declared.fill.Row.{Row}
use Rattle.rule_store.specs.declared.fill.Row.TheVariants.{Rule, Count, Entry}

-- a side that starts with the next entry and the next count
abbrev pub side_from : Tally → Side
side_from t = record { entries = record { start = t.entries; end = t.entries }; counts = record { start = t.counts; end = t.counts } }

-- a side that ends before the next entry and the next count
abbrev pub side_to : Side → Tally → Side
side_to s t = record { entries = record { start = s.entries.start; end = t.entries }; counts = record { start = s.counts.start; end = t.counts } }

-- the rule of a filler whose head ends here, and its count
abbrev pub rule_to : Filler → Tally → RuleRow
rule_to f t = record { body = f.rule.body; head = side_to f.rule.head t }

abbrev pub count_to : Filler → Tally → CountRow
count_to f t = record { lower = f.count.lower; upper = f.count.upper; choices = record { start = f.count.choices.start; end = t.entries } }

-- the filler after one part more, where the tally is that of the parts before it
abbrev pub filler_after : Filler → Tally → Part → Filler
filler_after f t part.HeaderLine = f
filler_after f t part.Header = f
filler_after f t (part.Size n) = f
filler_after f t (part.Rules m) = f
filler_after f t part.HeaderEnd = f
filler_after f t part.RuleLine = record { rule = record { body = side_from t; head = f.rule.head }; rule_at = t.rules; count = f.count; count_at = f.count_at }
filler_after f t (part.Choice c) = f
filler_after f t part.CountOpen = record { rule = f.rule; rule_at = f.rule_at; count = record { lower = f.count.lower; upper = f.count.upper; choices = record { start = t.entries; end = f.count.choices.end } }; count_at = t.counts }
filler_after f t (part.Lower k) = record { rule = f.rule; rule_at = f.rule_at; count = record { lower = k; upper = f.count.upper; choices = f.count.choices }; count_at = f.count_at }
filler_after f t (part.Upper m) = record { rule = f.rule; rule_at = f.rule_at; count = record { lower = f.count.lower; upper = m; choices = f.count.choices }; count_at = f.count_at }
filler_after f t (part.Member c) = f
filler_after f t part.CountClose = record { rule = f.rule; rule_at = f.rule_at; count = count_to f t; count_at = f.count_at }
filler_after f t part.Comma = record { rule = record { body = side_to f.rule.body t; head = side_from t }; rule_at = f.rule_at; count = f.count; count_at = f.count_at }
filler_after f t part.RuleEnd = record { rule = rule_to f t; rule_at = f.rule_at; count = f.count; count_at = f.count_at }
filler_after f t part.End = f

-- the row or entry that is whole with a part, where the tally is that of the parts before it
abbrev pub row_of : Filler → Tally → Part → Option Row
row_of f t part.HeaderLine = None
row_of f t part.Header = None
row_of f t (part.Size n) = None
row_of f t (part.Rules m) = None
row_of f t part.HeaderEnd = None
row_of f t part.RuleLine = None
row_of f t (part.Choice c) = Some (Entry t.entries c)
row_of f t part.CountOpen = None
row_of f t (part.Lower k) = None
row_of f t (part.Upper m) = None
row_of f t (part.Member c) = Some (Entry t.entries c)
row_of f t part.CountClose = Some (Count f.count_at (count_to f t))
row_of f t part.Comma = None
row_of f t part.RuleEnd = Some (Rule f.rule_at (rule_to f t))
row_of f t part.End = None

-- the rows and entries once it is put in
abbrev pub rules_put : Option Row → List RuleRow → List RuleRow
rules_put None rs = rs
rules_put (Some (Rule i r)) rs = slice_set rs i r
rules_put (Some (Count i r)) rs = rs
rules_put (Some (Entry i c)) rs = rs

abbrev pub counts_put : Option Row → List CountRow → List CountRow
counts_put None cs = cs
counts_put (Some (Rule i r)) cs = cs
counts_put (Some (Count i r)) cs = slice_set cs i r
counts_put (Some (Entry i c)) cs = cs

abbrev pub entries_put : Option Row → List ℕ → List ℕ
entries_put None xs = xs
entries_put (Some (Rule i r)) xs = xs
entries_put (Some (Count i r)) xs = xs
entries_put (Some (Entry i c)) xs = slice_set xs i c

-- the storage with what is being read
pub record Store : Type 0 where
  pub filler : Filler
  pub tally : Tally
  pub rules : List RuleRow
  pub counts : List CountRow
  pub entries : List ℕ

abbrev pub put_part : Store → Part → Store
put_part s p =
    record {
      filler = filler_after s.filler s.tally p;
      tally = counted s.tally p;
      rules = rules_put (row_of s.filler s.tally p) s.rules;
      counts = counts_put (row_of s.filler s.tally p) s.counts;
      entries = entries_put (row_of s.filler s.tally p) s.entries;
    }

abbrev pub fills : Store → List Part → Store
fills s [] = s
fills s (p ∷ ps) = fills (put_part s p) ps

-- the storage before the first part
abbrev pub unfilled : Filler → List RuleRow → List CountRow → List ℕ → Store
unfilled f rs cs xs = record { filler = f; tally = record { declared = 0; rules = 0; counts = 0; entries = 0 }; rules = rs; counts = cs; entries = xs }

-- a filler before the first part
abbrev pub fresh : Filler
fresh =
    record {
      rule = record { body = side_from (record { declared = 0; rules = 0; counts = 0; entries = 0 }); head = side_from (record { declared = 0; rules = 0; counts = 0; entries = 0 }) };
      rule_at = 0;
      count = record { lower = 0; upper = 0; choices = record { start = 0; end = 0 } };
      count_at = 0;
    }

-- Where the words of a file pass as some parts, the storage is filled with those.
abbrev pub Filled : List ℕ → List RuleRow → List CountRow → List ℕ → List RuleRow → List CountRow → List ℕ → Type 0
Filled bs rs cs xs rs' cs' xs' =
    (ps : List Part) (m : Mach) → Passes start_mach (words_only (file_words bs)) ps m →
    (rs' ≡ (fills (unfilled fresh rs cs xs) ps).rules) × (cs' ≡ (fills (unfilled fresh rs cs xs) ps).counts) × (xs' ≡ (fills (unfilled fresh rs cs xs) ps).entries)
