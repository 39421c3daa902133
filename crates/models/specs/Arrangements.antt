-- The arrangement that a list of yes choices stands for.
use Rattle.std.specs.Prelude.{ℕ, zero, suc, Bool, true, false, List, [], ◌∷◌, replicate, slice_set}
use Rattle.book.specs.declared.Mark.{Mark}
use Rattle.book.specs.declared.Mark.TheVariants.{Yes, No}

-- the marks with yes at a choice, if there is such a choice
abbrev pub mark_yes : ℕ → List Mark → List Mark
mark_yes zero ms = ms
mark_yes (suc k) ms = slice_set ms k Yes

-- the marks with yes at each of these choices
abbrev pub mark_all : List ℕ → List Mark → List Mark
mark_all [] ms = ms
mark_all (c ∷ cs) ms = mark_all cs (mark_yes c ms)

-- yes at these choices, and no at all others of n
abbrev pub arranged : ℕ → List ℕ → List Mark
arranged n cs = mark_all cs (replicate n No)

-- the answer to whether something holds
abbrev pub Tells : Type 0 → Bool → Type 0
Tells P true = P
Tells P false = P → ⊥
