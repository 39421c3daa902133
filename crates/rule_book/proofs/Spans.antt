-- A span that goes past its list.
use Rattle.std.proofs.Common.{◌≡◌, ℕ, ◌-◌, ◌<◌, ◌≤◌, min, List, [], length, take, drop, sym, ap, ◌∙◌, inl, inr, arith, length-drop}
use Rattle.std.proofs.lemmas.List.{take_all, drop_all}
use Rattle.std.proofs.lemmas.Bool.{cases_lt}
use Rattle.rules.specs.Storage.{run}

run_none : {A : Type 0} (n : ℕ) (xs : List A) → n ≡ 0 → take n xs ≡ []
run_none n xs e = rw e

pub run_clamped : {A : Type 0} (a b s e : ℕ) (xs : List A) → e ≡ min b (length xs) → s ≡ min a e → take (e - s) (drop s xs) ≡ run a b xs
run_clamped {A} a b s e xs p q = elim (cases_lt a (length xs)) [ inl h ↦ within h | inr h ↦ past h ]
  where
    past : length xs ≤ a → take (e - s) (drop s xs) ≡ run a b xs
    past h = run_none (e - s) (drop s xs) (omega arith) ∙ sym (ap (take (b - a)) (drop_all a xs h) ∙ take_all (b - a) [] (omega arith))

    within : a < length xs → take (e - s) (drop s xs) ≡ run a b xs
    within h = elim (cases_lt (length xs) b) [ inl g ↦ long g | inr g ↦ short g ]
      where
        long : length xs < b → take (e - s) (drop s xs) ≡ run a b xs
        long g =
            let z : s ≡ a = omega arith in
            let l = length-drop a xs in
            let u : take (e - s) (drop a xs) ≡ drop a xs = take_all (e - s) (drop a xs) (omega arith) in
            let v : take (b - a) (drop a xs) ≡ drop a xs = take_all (b - a) (drop a xs) (omega arith) in
            ap (λ (k : ℕ). take (e - s) (drop k xs)) z ∙ u ∙ sym v

        short : b ≤ length xs → take (e - s) (drop s xs) ≡ run a b xs
        short g = elim (cases_lt b a) [ inl k ↦ empty k | inr k ↦ plain k ]
          where
            empty : b < a → take (e - s) (drop s xs) ≡ run a b xs
            empty k = run_none (e - s) (drop s xs) (omega arith) ∙ sym (run_none (b - a) (drop a xs) (omega arith))

            plain : a ≤ b → take (e - s) (drop s xs) ≡ run a b xs
            plain k =
                let x : e ≡ b = omega arith in
                let y : s ≡ a = omega arith in
                rw (x, y)
