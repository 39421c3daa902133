-- The line of yes choices, mark by mark.
use Rattle.std.proofs.Common.{◌≡◌, ℕ, suc, ◌+◌, ◌<◌, ◌≤◌, List, [], ◌∷◌, ◌++◌, length, get_or, drop, codes, decimal, refl, ◌∙◌, append_assoc, add-one}
use Rattle.std.specs.List.{join_by, flat_map}
use Rattle.std.proofs.lemmas.List.{at_drop_more, at_drop_all}
use Rattle.book.specs.declared.Mark.{Mark}
use Rattle.book.specs.declared.Mark.TheVariants.{Open, Yes, No}
use Rattle.printing.specs.Output.{yes_choices, choice_line}

-- choices with one space between them, where the gap comes before the first
abbrev pub spaced : List ℕ → List ℕ → List ℕ
spaced gap [] = []
spaced gap (c ∷ cs) = (gap ++ decimal c) ++ flat_map (λ d. codes " " ++ decimal d) cs

-- what is left of the line at the mark of place i
abbrev pub ahead : List ℕ → ℕ → List Mark → List ℕ
ahead gap i ms = spaced gap (yes_choices (i + 1) (drop i ms)) ++ codes "\n"

after : (cs : List ℕ) → flat_map (λ d. codes " " ++ decimal d) cs ≡ spaced (codes " ") cs
after [] = refl
after (c ∷ cs) = refl

pub at_start : (ms : List Mark) → choice_line ms ≡ ahead [] 0 ms
unfolding choice_line
at_start ms = by (yes_choices 1 ms)
  where
    by : (cs : List ℕ) → join_by decimal (codes " ") cs ++ codes "\n" ≡ spaced [] cs ++ codes "\n"
    by [] = refl
    by (c ∷ cs) = refl

pub at_yes : (gap : List ℕ) (i : ℕ) (ms : List Mark) → i < length ms → get_or ms i Open ≡ Yes → ahead gap i ms ≡ (gap ++ decimal (i + 1)) ++ ahead (codes " ") (i + 1) ms
at_yes gap i ms h e =
    at_drop_more (λ (r : List Mark). spaced gap (yes_choices (i + 1) r) ++ codes "\n") ms i Open h ∙
    rw (e, add-one (i + 1), after) (append_assoc (gap ++ decimal (i + 1)) (spaced (codes " ") (yes_choices (suc (i + 1)) (drop (i + 1) ms))) (codes "\n"))

-- a mark that is not yes adds nothing
pub at_other : (gap : List ℕ) (i : ℕ) (ms : List Mark) → i < length ms → (get_or ms i Open ≡ Yes → ⊥) → ahead gap i ms ≡ ahead gap (i + 1) ms
at_other gap i ms h no_yes = at_drop_more (λ (r : List Mark). spaced gap (yes_choices (i + 1) r) ++ codes "\n") ms i Open h ∙ rw (add-one (i + 1)) (by (get_or ms i Open) no_yes)
  where
    by : (m : Mark) → (m ≡ Yes → ⊥) → spaced gap (yes_choices (i + 1) (m ∷ drop (i + 1) ms)) ++ codes "\n" ≡ spaced gap (yes_choices (suc (i + 1)) (drop (i + 1) ms)) ++ codes "\n"
    by Open f = refl
    by Yes f = absurd (f refl)
    by No f = refl

-- past the last mark only the line feed is left
pub at_end : (gap : List ℕ) (i : ℕ) (ms : List Mark) → length ms ≤ i → ahead gap i ms ≡ codes "\n"
at_end gap i ms h = at_drop_all (λ (r : List Mark). spaced gap (yes_choices (i + 1) r) ++ codes "\n") ms i h
