-- The tree of readings: how many trials a search of it needs, and what the search comes to.
use Rattle.std.specs.Prelude.{◌≡◌, ℕ, suc, ◌+◌, ◌-◌, ◌^◌, ◌<◌, ◌≤◌, cond, ◌⊎◌, List, [], ◌∷◌, length, Some, None, Option, slice_set}
use Rattle.book.specs.declared.Answer.{Answer}
use Rattle.book.specs.declared.Mark.{Mark}
use Rattle.book.specs.declared.Mark.TheVariants.{Yes, No}
use Rattle.book.specs.declared.Reading.{Reading}
use Rattle.book.specs.declared.Reading.TheVariants.{Broken, Quiet, Forced}
use Rattle.book.specs.Books.{mark_of, open_mark, Extends, Earlier}

-- the place of the lowest open mark, or the length where none is open
abbrev pub first_open : List Mark → ℕ
first_open [] = 0
first_open (m ∷ ms) = cond (open_mark m) 0 (suc (first_open ms))

-- how many marks are open
abbrev pub opens : List Mark → ℕ
opens [] = 0
opens (m ∷ ms) = cond (open_mark m) (suc (opens ms)) (opens ms)

-- Explores reads ms t o: a search from the marks ms needs t trials and comes to o, an arrangement or nothing.
pub data Explores (reads : List Mark → Reading) : List Mark → ℕ → Option (List Mark) → Type 0 where
  -- broken marks come to nothing
  broken : (ms : List Mark) → reads ms ≡ Broken → Explores reads ms 0 None
  -- quiet marks with none open are what is looked for
  settled : (ms : List Mark) → reads ms ≡ Quiet → length ms ≤ first_open ms → Explores reads ms 0 (Some ms)
  -- a forced mark costs no trial
  forced : (ms : List Mark) (c : ℕ) (v : Answer) (t : ℕ) (o : Option (List Mark)) → reads ms ≡ Forced c v → Explores reads (slice_set ms (c - 1) (mark_of v)) t o → Explores reads ms t o
  -- quiet marks with some open cost one trial, yes at the lowest open choice: either that side comes to an arrangement ..
  yes_side : (ms : List Mark) (t : ℕ) (a : List Mark) → reads ms ≡ Quiet → first_open ms < length ms → Explores reads (slice_set ms (first_open ms) Yes) t (Some a) → Explores reads ms (1 + t) (Some a)
  -- .. or it comes to nothing, and the side with no goes on
  no_side : (ms : List Mark) (t u : ℕ) (o : Option (List Mark)) → reads ms ≡ Quiet → first_open ms < length ms → Explores reads (slice_set ms (first_open ms) Yes) t None → Explores reads (slice_set ms (first_open ms) No) u o → Explores reads ms (1 + (t + u)) o

-- o is the first of the allowed arrangements that extend the marks, or nothing if there is none
abbrev pub FirstOf : (List Mark → Type 0) → List Mark → Option (List Mark) → Type 0
FirstOf allows ms (Some a) = allows a × Extends ms a × ((b : List Mark) → allows b → Extends ms b → (a ≡ b) ⊎ Earlier a b)
FirstOf allows ms None = (b : List Mark) → allows b → Extends ms b → ⊥

-- What holds of the tree of every lawful book, from any n marks.
pub record TreeLaws (n : ℕ) (allows : List Mark → Type 0) (reads : List Mark → Reading) : Type 0 where
  -- a search needs some number of trials and comes to some end ..
  pub total : (ms : List Mark) → length ms ≡ n → (t : ℕ) × (o : Option (List Mark)) × Explores reads ms t o
  -- .. and to no other
  pub single : (ms : List Mark) (t u : ℕ) (o p : Option (List Mark)) → Explores reads ms t o → Explores reads ms u p → (t ≡ u) × (o ≡ p)
  -- with k marks open it needs at most 2 ^ k - 1 trials
  pub few : (ms : List Mark) (t : ℕ) (o : Option (List Mark)) → Explores reads ms t o → t + 1 ≤ 2 ^ opens ms
  -- what it comes to is true of the book
  pub first : (ms : List Mark) (t : ℕ) (o : Option (List Mark)) → length ms ≡ n → Explores reads ms t o → FirstOf allows ms o
