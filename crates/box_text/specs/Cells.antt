-- Bytes go by their codes: 32 space, 48 to 57 digits.
use Rattle.std.specs.Prelude.{ℕ, ◌+◌, ◌-◌, ◌*◌, Bool, cond, ◌&&◌, List, [], ◌∷◌, Some, None, Option, ◌==◌, nat_le}

abbrev pub digit : ℕ → Bool
digit b = nat_le 48 b && nat_le b 57

-- what stands after the spaces at the start
abbrev pub past_spaces : List ℕ → List ℕ
past_spaces [] = []
past_spaces (b ∷ bs) = cond (b == 32) (past_spaces bs) (b ∷ bs)

-- v where nothing stands any more
abbrev pub at_end : ℕ → List ℕ → Option ℕ
at_end v [] = Some v
at_end v (b ∷ bs) = None

-- the value of digits that come after others of value v, if only spaces follow them
abbrev pub digits_on : ℕ → List ℕ → Option ℕ
digits_on v [] = Some v
digits_on v (b ∷ bs) = cond (digit b) (digits_on (v * 10 + (b - 48)) bs) (at_end v (past_spaces (b ∷ bs)))

-- the value of digits, at least one, if only spaces follow them
abbrev pub digits : List ℕ → Option ℕ
digits [] = None
digits (b ∷ bs) = cond (digit b) (digits_on 0 (b ∷ bs)) None

abbrev pub in_range : Option ℕ → Option ℕ
in_range None = None
in_range (Some v) = cond (nat_le v 65535) (Some v) None

-- The number of a cell: digits, any number of leading zeros among them, with spaces around them or none, of a value up
-- to 65,535. Any other cell has no number.
abbrev pub cell_number : List ℕ → Option ℕ
cell_number bs = in_range (digits (past_spaces bs))
