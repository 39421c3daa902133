-- What stands on a job, and what the calls make of it.
use Rattle.std.specs.Prelude.{ℕ, ◌-◌, List, [], ◌∷◌, ◌++◌, take, drop, replicate, slice_set}
use Rattle.book.specs.declared.Answer.{Answer}
use Rattle.book.specs.declared.Mark.{Mark}
use Rattle.book.specs.declared.Mark.TheVariants.{Open}
use Rattle.book.specs.Books.{mark_of}
use Rattle.standing.specs.declared.Member.{Member}

-- Choice c has the place c - 1 among the pins, which are as many as a sheet can have choices: the answer that is ordered
-- there, or open where none is. The ban of number k has the place k - 1 among the bans.
pub record Standing : Type 0 where
  pub pins : List Mark
  pub bans : List (List Member)

-- no pins and no bans
abbrev pub nothing : Standing
nothing = record { pins = replicate 4096 Open; bans = [] }

-- the choice pinned to an answer, whatever pin was there
abbrev pub with_pin : Standing → ℕ → Answer → Standing
with_pin s c v = record { pins = slice_set s.pins (c - 1) (mark_of v); bans = s.bans }

-- the choice without its pin
abbrev pub without_pin : Standing → ℕ → Standing
without_pin s c = record { pins = slice_set s.pins (c - 1) Open; bans = s.bans }

-- one ban more, at the end
abbrev pub with_ban : Standing → List Member → Standing
with_ban s b = record { pins = s.pins; bans = s.bans ++ (b ∷ []) }

-- the bans without that of number k; later ones move down by one
abbrev pub lifted : ℕ → List (List Member) → List (List Member)
lifted k bs = take (k - 1) bs ++ drop k bs

abbrev pub without_ban : Standing → ℕ → Standing
without_ban s k = record { pins = s.pins; bans = lifted k s.bans }
