-- What the first ban that has something to say says.
use Rattle.std.proofs.Common.{◌≡◌, ℕ, zero, suc, ◌<◌, List, [], ◌∷◌, length, get_or, Some, None, Option, refl, ◌∙◌, sym, arith}
use Rattle.std.specs.Option.{MatchOption, unwrap_or}
use Rattle.book.specs.declared.Mark.{Mark}
use Rattle.book.specs.declared.Reading.{Reading}
use Rattle.book.specs.declared.Reading.TheVariants.{Broken, Quiet, Forced}
use Rattle.book.specs.Books.{loud, first_loud}
use Rattle.standing.specs.declared.Member.{Member}
use Rattle.standing.specs.Readings.{ban_reading, bans_reading}

quiet_first : (r s : Reading) → loud r ≡ None → first_loud r s ≡ s
quiet_first Broken s e = absurd cc
quiet_first Quiet s e = refl
quiet_first (Forced c v) s e = absurd cc

loud_first : (r s y : Reading) → loud r ≡ Some y → first_loud r s ≡ y
loud_first Broken s y e = cc
loud_first Quiet s y e = absurd cc
loud_first (Forced c v) s y e = cc

module _ (ms : List Mark) where
  -- what the ban at a place says, unless it is quiet
  abbrev pub says : List (List Member) → ℕ → Option Reading
  says bs k = loud (ban_reading ms (get_or bs k []))

  -- nothing is said, or the first that is said
  abbrev pub IsFirstSaid : List (List Member) → Option Reading → Type 0
  IsFirstSaid bs r = MatchOption r ((k : ℕ) → k < length bs → says bs k ≡ None) (λ y. (i : ℕ) × (i < length bs) × (says bs i ≡ Some y) × ((k : ℕ) → k < i → says bs k ≡ None))

  pub first_said : (bs : List (List Member)) (r : Option Reading) → IsFirstSaid bs r → unwrap_or r Quiet ≡ bans_reading bs ms
  first_said [] None h = refl
  first_said [] (Some y) h = absurd (omega (arith, h.1))
  first_said (b ∷ bs) None h = sym (quiet_first (ban_reading ms b) (bans_reading bs ms) (h 0 (omega arith)) ∙ sym (first_said bs None (λ k l. h (suc k) (omega arith))))
  first_said (b ∷ bs) (Some y) (zero, l, e, h) = sym (loud_first (ban_reading ms b) (bans_reading bs ms) y e)
  first_said (b ∷ bs) (Some y) (suc i, l, e, h) = sym (quiet_first (ban_reading ms b) (bans_reading bs ms) (h 0 (omega arith)) ∙ sym (first_said bs (Some y) (i, omega arith, e, λ k m. h (suc k) (omega arith))))
