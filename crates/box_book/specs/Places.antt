-- Tests of the places of a list.
use Rattle.std.specs.Prelude.{ℕ, zero, suc, Bool, false, cond, ◌||◌, Some, None, Option}
use Rattle.std.specs.Option.{option_map}

-- whether some place below n passes
abbrev pub some_below : (ℕ → Bool) → ℕ → Bool
some_below p zero = false
some_below p (suc n) = p n || some_below p n

-- the first place below n that passes, if one does
abbrev pub first_below : (ℕ → Bool) → ℕ → Option ℕ
first_below p zero = None
first_below p (suc n) = cond (p zero) (Some zero) (option_map suc (first_below (λ k. p (suc k)) n))
