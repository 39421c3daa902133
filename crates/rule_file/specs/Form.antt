-- The form of rule files, and the limits that a file keeps.
use Rattle.std.specs.Prelude.{◌≡◌, ℕ, ◌+◌, ◌≤◌, ◌⊎◌, List, [], ◌∷◌, length}
use Rattle.rules.specs.Rules.{Item, choice, count, Rule}
use Rattle.scan.specs.Text.{Reads}
use Rattle.scan.specs.Words.{Word, line, header, number, opening, closing, comma, feed, end, Placed}
use Rattle.rule_file.specs.declared.line.Part.{Part}
use Rattle.rule_file.specs.declared.line.Part.TheVariants as part

-- the word that a part is written as
abbrev pub written_as : Part → Word
written_as part.HeaderLine = line
written_as part.Header = header
written_as (part.Size n) = number n
written_as (part.Rules m) = number m
written_as part.HeaderEnd = feed
written_as part.RuleLine = line
written_as (part.Choice c) = number c
written_as part.CountOpen = opening
written_as (part.Lower k) = number k
written_as (part.Upper m) = number m
written_as (part.Member c) = number c
written_as part.CountClose = closing
written_as part.Comma = comma
written_as part.RuleEnd = feed
written_as part.End = end

abbrev pub all_written : List Part → List Word
all_written [] = []
all_written (p ∷ ps) = written_as p ∷ all_written ps

-- The form: a header with n and a number of rules, then each rule on a line, its body items, a comma and its head items.
-- Each piece is given with the parts that come after it.
abbrev pub member_parts : List ℕ → List Part → List Part
member_parts [] after = after
member_parts (c ∷ cs) after = part.Member c ∷ member_parts cs after

abbrev pub item_parts : Item → List Part → List Part
item_parts (choice c) after = part.Choice c ∷ after
item_parts (count k m cs) after = part.CountOpen ∷ part.Lower k ∷ part.Upper m ∷ member_parts cs (part.CountClose ∷ after)

abbrev pub items_parts : List Item → List Part → List Part
items_parts [] after = after
items_parts (i ∷ is) after = item_parts i (items_parts is after)

abbrev pub rule_parts : Rule → List Part → List Part
rule_parts r after = part.RuleLine ∷ items_parts r.body (part.Comma ∷ items_parts r.head (part.RuleEnd ∷ after))

abbrev pub rules_parts : List Rule → List Part → List Part
rules_parts [] after = after
rules_parts (r ∷ rs) after = rule_parts r (rules_parts rs after)

abbrev pub form : ℕ → ℕ → List Rule → List Part
form n m rs = part.HeaderLine ∷ part.Header ∷ part.Size n ∷ part.Rules m ∷ part.HeaderEnd ∷ rules_parts rs (part.End ∷ [])

abbrev pub words_only : List Placed → List Word
words_only [] = []
words_only (x ∷ xs) = x.1 ∷ words_only xs

-- The bytes spell a file with that n, that number of rules in its header, and those rules.
abbrev pub SpellsFile : List ℕ → ℕ → ℕ → List Rule → Type 0
SpellsFile bs n m rs = (ws : List Placed) × Reads bs ws × (words_only ws ≡ all_written (form n m rs))

-- a choice that a sheet of n choices has
abbrev pub IsChoice : ℕ → ℕ → Type 0
IsChoice n c = (1 ≤ c) × (c ≤ n)

abbrev pub AllChoices : ℕ → List ℕ → Type 0
AllChoices n [] = Unit {0}
AllChoices n (c ∷ cs) = IsChoice n c × AllChoices n cs

abbrev pub Occurs : ℕ → List ℕ → Type 0
Occurs c [] = ⊥
Occurs c (d ∷ ds) = (c ≡ d) ⊎ Occurs c ds

abbrev pub Distinct : List ℕ → Type 0
Distinct [] = Unit {0}
Distinct (c ∷ cs) = (Occurs c cs → ⊥) × Distinct cs

abbrev pub GoodItem : ℕ → Item → Type 0
GoodItem n (choice c) = IsChoice n c
GoodItem n (count k m cs) = (k ≤ 65535) × (m ≤ 65535) × AllChoices n cs × Distinct cs

abbrev pub GoodItems : ℕ → List Item → Type 0
GoodItems n [] = Unit {0}
GoodItems n (i ∷ is) = GoodItem n i × GoodItems n is

abbrev pub GoodRules : ℕ → List Rule → Type 0
GoodRules n [] = Unit {0}
GoodRules n (r ∷ rs) = GoodItems n r.body × GoodItems n r.head × GoodRules n rs

-- how many counts and how many entries there are
abbrev pub item_counts : List Item → ℕ
item_counts [] = 0
item_counts (choice c ∷ is) = item_counts is
item_counts (count k m cs ∷ is) = 1 + item_counts is

abbrev pub item_entries : List Item → ℕ
item_entries [] = 0
item_entries (choice c ∷ is) = 1 + item_entries is
item_entries (count k m cs ∷ is) = length cs + item_entries is

abbrev pub all_counts : List Rule → ℕ
all_counts [] = 0
all_counts (r ∷ rs) = item_counts r.body + item_counts r.head + all_counts rs

abbrev pub all_entries : List Rule → ℕ
all_entries [] = 0
all_entries (r ∷ rs) = item_entries r.body + item_entries r.head + all_entries rs

-- The limits: of n, of rules, counts and entries in all; each choice is one of the sheet's, each bound at most 65,535, and
-- the choices of one count differ.
pub record Within (n : ℕ) (rs : List Rule) : Type 0 where
  pub size : n ≤ 4096
  pub rules : length rs ≤ 2048
  pub counts : all_counts rs ≤ 1024
  pub entries : all_entries rs ≤ 16384
  pub good : GoodRules n rs

-- A file of rules: at most 65,535 bytes of the form, with as many rules as its header says, within the limits.
pub record File (bs : List ℕ) (n : ℕ) (rs : List Rule) : Type 0 where
  pub bytes : length bs ≤ 65535
  pub spelled : SpellsFile bs n (length rs) rs
  pub within : Within n rs
