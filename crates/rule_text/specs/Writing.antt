-- Rules as they are written.
use Rattle.std.specs.Prelude.{◌≡◌, ℕ, ◌<◌, ◌≤◌, ◌⊎◌, List, [], ◌∷◌, ◌++◌, length, Ok, Err, map, codes, decimal, Result}
use Rattle.std.specs.List.{flat_map, join_with_byte}
use Rattle.output.specs.Writing.{Fits}
use Rattle.rules.specs.Rules.{Item, choice, count, Rule}
use Rattle.rule_file.specs.declared.fault.FileCause.TheVariants.{Writing}
use Rattle.rule_file.specs.declared.fault.FileFault.{FileFault}
use Rattle.rule_file.specs.Faults.{file_at}

-- Tokens are texts.
abbrev pub numerals : List ℕ → List (List ℕ)
numerals cs = map decimal cs

abbrev pub item_tokens : Item → List (List ℕ)
item_tokens (choice c) = decimal c ∷ []
item_tokens (count k m cs) = codes "{" ∷ decimal k ∷ decimal m ∷ (numerals cs ++ (codes "}" ∷ []))

abbrev pub items_tokens : List Item → List (List ℕ)
items_tokens is = flat_map item_tokens is

-- the body items, a comma and the head items
abbrev pub rule_tokens : Rule → List (List ℕ)
rule_tokens r = items_tokens r.body ++ (codes "," ∷ items_tokens r.head)

-- n and the number of rules
abbrev pub header_tokens : ℕ → ℕ → List (List ℕ)
header_tokens n m = codes "p" ∷ decimal n ∷ decimal m ∷ []

-- texts with one space between them
abbrev pub spaced : List (List ℕ) → List ℕ
spaced ts = join_with_byte 32 ts

abbrev pub line_text : List (List ℕ) → List ℕ
line_text ts = spaced ts ++ codes "\n"

abbrev pub rule_lines : List Rule → List ℕ
rule_lines rs = flat_map (λ r. line_text (rule_tokens r)) rs

-- A book with that n and those rules, written out.
unfoldable pub writing : ℕ → List Rule → List ℕ
writing n rs = line_text (header_tokens n (length rs)) ++ rule_lines rs

-- What writing a text of rules into a list answers. It is refused exactly where it has more than 65,535 bytes or does not
-- fit, and the list is then as it was.
abbrev pub Written : List ℕ → List ℕ → List ℕ → Result ℕ FileFault → Type 0
Written text out out' (Ok k) = (length text ≤ 65535) × Fits text out out' k
Written text out out' (Err f) =
    (f ≡ record { fault = file_at Writing 0; line = 1 }) × ((65535 < length text) ⊎ (length out < length text)) × (out' ≡ out)
