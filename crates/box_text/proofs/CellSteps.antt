-- Digits whose value is above the range.
use Rattle.std.proofs.Common.{◌≡◌, ℕ, ◌+◌, ◌-◌, ◌*◌, ◌<◌, ◌≤◌, true, false, ◌⊎◌, List, [], ◌∷◌, length, get_or, None, Option, refl, ap, subst, ◌∙◌, inl, inr, arith}
use Rattle.std.specs.Option.{SomeIff}
use Rattle.std.proofs.lemmas.Bool.{cases_Bool, cases_lt, le-leb, lt-leb}
use Rattle.box_text.specs.Cells.{digit, past_spaces, at_end, digits_on, in_range}

large_end : (v : ℕ) (bs : List ℕ) → 65535 < v → in_range (at_end v bs) ≡ None
large_end v [] h = rw (lt-leb v 65535 h)
large_end v (b ∷ bs) h = refl

-- no digits bring a value back into range
too_large : (bs : List ℕ) (v : ℕ) → 65535 < v → in_range (digits_on v bs) ≡ None
too_large [] v h = rw (lt-leb v 65535 h)
too_large (b ∷ bs) v h = at (cases_Bool (digit b)) (too_large bs (v * 10 + (b - 48)) (omega arith))
  where
    at : (digit b ≡ true) ⊎ (digit b ≡ false) → in_range (digits_on (v * 10 + (b - 48)) bs) ≡ None → in_range (digits_on v (b ∷ bs)) ≡ None
    at (inl e) on = let to : digits_on v (b ∷ bs) ≡ digits_on (v * 10 + (b - 48)) bs = simp e in ap in_range to ∙ on
    at (inr e) on = let to : digits_on v (b ∷ bs) ≡ at_end v (past_spaces (b ∷ bs)) = simp e in ap in_range to ∙ large_end v (past_spaces (b ∷ bs)) h

-- the next digit leads out of the range
pub leads_out : (bs : List ℕ) (v : ℕ) → 0 < length bs → 48 ≤ get_or bs 0 0 → get_or bs 0 0 ≤ 57 → 65535 < v * 10 + (get_or bs 0 0 - 48) → in_range (digits_on v bs) ≡ None
leads_out [] v some low high big = absurd (omega arith)
leads_out (b ∷ bs) v some low high big =
    let e : digit b ≡ true = rw (le-leb 48 b low, le-leb b 57 high) in
    let to : digits_on v (b ∷ bs) ≡ digits_on (v * 10 + (b - 48)) bs = simp e in
    ap in_range to ∙ too_large bs (v * 10 + (b - 48)) big

-- what is no number of a `u16` is above the range
pub above : (r : Option ℕ) (n : ℕ) → SomeIff r (n < 65536) n → r ≡ None → 65535 < n
above r n s e = let f = subst (λ (o : Option ℕ). SomeIff o (n < 65536) n) e s in elim (cases_lt n 65536) [ inl h ↦ absurd (f h) | inr h ↦ omega arith ]
