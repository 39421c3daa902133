-- A text written into a list of bytes.
use Rattle.std.specs.Prelude.{◌≡◌, ℕ, ◌+◌, ◌^◌, ◌<◌, ◌≤◌, ◌⊎◌, Bool, false, List, ◌++◌, length, drop, Some, None, Option, nat_le}
use Rattle.std.proofs.lemmas.List.Edits.{sets}

-- What writing a text at a place answers, where out' is the list then.
pub data Wrote (out : List ℕ) (at : ℕ) (text out' : List ℕ) : Option ℕ → Type 0 where
  -- the text is laid over the list, as far as the list goes, and the answer is the place after the whole text
  laid : (end : ℕ) → out' ≡ sets out at text → end ≡ at + length text → Wrote out at text out' (Some end)
  -- the place after the text has no number of 64 bits
  beyond : 2 ^ 64 ≤ at + length text → Wrote out at text out' None

-- where None is answered, the list is as it was
abbrev pub Unwritten : List ℕ → List ℕ → Option ℕ → Type 0
Unwritten out out' (Some end) = Unit {0}
Unwritten out out' None = out' ≡ out

-- whether the place answered is within that many bytes
abbrev pub within : Option ℕ → ℕ → Bool
within (Some end) room = nat_le end room
within None room = false

-- A text that fits into a list and stands at its front: its length, and the bytes after it are those that were there.
abbrev pub Fits : List ℕ → List ℕ → List ℕ → ℕ → Type 0
Fits text out out' k = (k ≡ length text) × (k ≤ length out) × (out' ≡ text ++ drop k out)

-- What writing a whole text of at most that many bytes answers: it stands at the front, or it has more bytes or does not
-- fit, and the list is as it was.
abbrev pub WroteWhole : List ℕ → ℕ → List ℕ → List ℕ → Option ℕ → Type 0
WroteWhole text most out out' (Some k) = (length text ≤ most) × Fits text out out' k
WroteWhole text most out out' None = ((most < length text) ⊎ (length out < length text)) × (out' ≡ out)
