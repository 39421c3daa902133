-- Tokens as the code writes them, each with a space of its own. That a rule's tokens then stand with one space between them
-- is proved in proofs/Lines.antt.
use Rattle.std.specs.Prelude.{ℕ, List, ◌++◌, codes}
use Rattle.std.specs.List.{flat_map}
use Rattle.rule_text.specs.declared.Spacing.{Spacing}
use Rattle.rule_text.specs.declared.Spacing.TheVariants.{After, Before}

abbrev pub padded : Spacing → List ℕ → List ℕ
padded After t = t ++ codes " "
padded Before t = codes " " ++ t

abbrev pub all_padded : Spacing → List (List ℕ) → List ℕ
all_padded s ts = flat_map (padded s) ts
