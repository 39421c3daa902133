-- Which causes are at which places of a file. A word is judged by itself and by the words before it; no reader comes in.
use Rattle.std.specs.Prelude.{◌≡◌, ℕ, ◌+◌, ◌<◌, ◌≤◌, ◌⊎◌, List, [], ◌∷◌, ◌++◌}
use Rattle.rules.specs.Rules.{Rule}
use Rattle.scan.specs.Text.{Reads}
use Rattle.scan.specs.Words.{Word, number, unknown, Placed}
use Rattle.rule_file.specs.declared.line.Part.{Part}
use Rattle.rule_file.specs.declared.line.Part.TheVariants as part
use Rattle.rule_file.specs.Form.{written_as, all_written, form, words_only, Occurs}

-- Some file of the form, of any size and with any rules, begins with these parts.
abbrev pub Begins : List Part → Type 0
Begins ps = (n : ℕ) × (m : ℕ) × (rs : List Rule) × (rest : List Part) × (form n m rs ≡ ps ++ rest)

-- A word stands where the form has the part p, after words that are the parts ps.
pub record Stands (before : List Word) (w : Word) (ps : List Part) (p : Part) : Type 0 where
  pub behind : all_written ps ≡ before
  pub here : written_as p ≡ w
  pub begins : Begins (ps ++ (p ∷ []))

-- What parts add up to: the header's n and number of rules, how many rules, counts and entries there are, and the choices
-- of the last count.
pub record Sum : Type 0 where
  pub size : ℕ
  pub declared : ℕ
  pub rules : ℕ
  pub counts : ℕ
  pub entries : ℕ
  pub had : List ℕ

abbrev pub nothing_yet : Sum
nothing_yet = record { size = 0; declared = 0; rules = 0; counts = 0; entries = 0; had = [] }

abbrev pub with_size : ℕ → Sum → Sum
with_size n s = record { size = n; declared = s.declared; rules = s.rules; counts = s.counts; entries = s.entries; had = s.had }

abbrev pub with_declared : ℕ → Sum → Sum
with_declared m s = record { size = s.size; declared = m; rules = s.rules; counts = s.counts; entries = s.entries; had = s.had }

abbrev pub one_rule : Sum → Sum
one_rule s = record { size = s.size; declared = s.declared; rules = s.rules + 1; counts = s.counts; entries = s.entries; had = s.had }

-- a new count has had no choice
abbrev pub one_count : Sum → Sum
one_count s = record { size = s.size; declared = s.declared; rules = s.rules; counts = s.counts + 1; entries = s.entries; had = [] }

abbrev pub one_item : Sum → Sum
one_item s = record { size = s.size; declared = s.declared; rules = s.rules; counts = s.counts; entries = s.entries + 1; had = s.had }

abbrev pub one_member : ℕ → Sum → Sum
one_member c s = record { size = s.size; declared = s.declared; rules = s.rules; counts = s.counts; entries = s.entries + 1; had = c ∷ s.had }

-- a sum with one part more
abbrev pub adding : Sum → Part → Sum
adding s part.HeaderLine = s
adding s part.Header = s
adding s (part.Size n) = with_size n s
adding s (part.Rules m) = with_declared m s
adding s part.HeaderEnd = s
adding s part.RuleLine = one_rule s
adding s (part.Choice c) = one_item s
adding s part.CountOpen = one_count s
adding s (part.Lower k) = s
adding s (part.Upper m) = s
adding s (part.Member c) = one_member c s
adding s part.CountClose = s
adding s part.Comma = s
adding s part.RuleEnd = s
adding s part.End = s

abbrev pub adding_all : Sum → List Part → Sum
adding_all s [] = s
adding_all s (p ∷ ps) = adding_all (adding s p) ps

abbrev pub sum : List Part → Sum
sum ps = adding_all nothing_yet ps

-- The causes of a part, by number, after parts that add up to s.
pub data Breaks (s : Sum) : Part → ℕ → Type 0 where
  -- 14: a choice is zero or above n
  no_item : {c : ℕ} → (c ≡ 0) ⊎ (s.size < c) → Breaks s (part.Choice c) 14
  no_member : {c : ℕ} → (c ≡ 0) ⊎ (s.size < c) → Breaks s (part.Member c) 14
  -- 15: a choice stands again in one count
  repeated : {c : ℕ} → Occurs c s.had → Breaks s (part.Member c) 15
  -- 16: n or the number of rules is too large, or a count or an entry is one too many
  large_size : {n : ℕ} → 4096 < n → Breaks s (part.Size n) 16
  many_rules : {m : ℕ} → 2048 < m → Breaks s (part.Rules m) 16
  many_counts : 1024 ≤ s.counts → Breaks s part.CountOpen 16
  many_items : {c : ℕ} → 16384 ≤ s.entries → Breaks s (part.Choice c) 16
  many_members : {c : ℕ} → 16384 ≤ s.entries → Breaks s (part.Member c) 16
  -- 17: the line of a rule beyond those that the header says, or too few rules at the end
  surplus_rule : s.declared ≤ s.rules → Breaks s part.RuleLine 17
  missing_rule : s.rules < s.declared → Breaks s part.End 17

-- The causes of a word, by number, after the words before it.
pub data Wrong (before : List Word) : Word → ℕ → Type 0 where
  -- 11: a byte that means nothing
  unknown_byte : Wrong before unknown 11
  -- 12: a number above 65,535
  large_number : {v : ℕ} → 65535 < v → Wrong before (number v) 12
  -- 13: no file of the form begins with the words before and this one
  no_form : {w : Word} → ((ps : List Part) (p : Part) → Stands before w ps p → ⊥) → Wrong before w 13
  -- 14 to 17: those of the part that it stands for
  broken : {w : Word} {c : ℕ} (ps : List Part) (p : Part) → Stands before w ps p → Breaks (sum ps) p c → Wrong before w c

-- Cause c is at place i of a file, given as its words: some word at that place has it.
abbrev pub CauseAt : List Placed → ℕ → ℕ → Type 0
CauseAt ws i c = (before : List Placed) × (w : Word) × (after : List Placed) × (ws ≡ before ++ ((i, w) ∷ after)) × Wrong (words_only before) w c

-- The first fault of a file: the cause at the earliest place that has one, and there the one with the smallest number.
pub record FirstFault (bs : List ℕ) (i c : ℕ) : Type 0 where
  pub words : List Placed
  pub reads : Reads bs words
  pub there : CauseAt words i c
  pub first : (j d : ℕ) → CauseAt words j d → (i < j) ⊎ ((i ≡ j) × (c ≤ d))
