-- Where a text is cut into rows.
use Rattle.std.proofs.Common.{◌≡◌, ℕ, zero, suc, ◌+◌, ◌-◌, ◌<◌, ◌≤◌, Bool, true, false, ◌&&◌, eqb, ◌⊎◌, List, [], ◌∷◌, length, get_or, take, drop, ◌≢◌, sym, refl, ap, ◌∙◌, subst, inl, inr, add-one, arith, length-drop}
use Rattle.std.proofs.lemmas.Bool.{cases_Bool, cases_lt, cases_eq, eq-eqb, ne_eqb, eqb-true, and_left, and_right, true≢false}
use Rattle.std.proofs.lemmas.List.{take_rest, get_or-take, length-take-le, take-take}
use Rattle.box_text.specs.Rows.{onto}
use Rattle.box_text.specs.Text.{feed_next, rows_of}

no_return : (b : ℕ) (f : Bool) → (b ≡ 13 → f ≡ true → ⊥) → (eqb b 13 && f) ≡ false
no_return b f n = at (cases_Bool (eqb b 13)) (cases_Bool f)
  where
    at : (eqb b 13 ≡ true) ⊎ (eqb b 13 ≡ false) → (f ≡ true) ⊎ (f ≡ false) → (eqb b 13 && f) ≡ false
    at (inl e) (inl g) = absurd (n (eqb-true b 13 e) g)
    at (inl e) (inr g) = and_right (eqb b 13) f g
    at (inr e) g = and_left (eqb b 13) f e

-- a byte that ends no row goes to the first row
row_on : (b : ℕ) (bs : List ℕ) → (b ≡ 10 → ⊥) → (b ≡ 13 → feed_next bs ≡ true → ⊥) → rows_of (b ∷ bs) ≡ onto b (rows_of bs)
row_on b bs n m = rw (ne_eqb b 10 n, no_return b (feed_next bs) m)

no_feed : (bs : List ℕ) → (0 < length bs → get_or bs 0 0 ≡ 10 → ⊥) → feed_next bs ≡ true → ⊥
no_feed [] n e = true≢false (sym e)
no_feed (b ∷ bs) n e = n (omega arith) (eqb-true b 10 e)

-- up to a line feed with no carriage return before it
pub cut_feed :
    (n : ℕ) (bs : List ℕ) → n < length bs → ((k : ℕ) → k < n → get_or bs k 0 ≡ 10 → ⊥) → get_or bs n 0 ≡ 10 →
    ((k : ℕ) → suc k ≡ n → get_or bs k 0 ≡ 13 → ⊥) → rows_of bs ≡ take n bs ∷ rows_of (drop (suc n) bs)
cut_feed n [] h before found other = absurd (omega arith)
cut_feed zero (b ∷ bs) h before found other = rw (eq-eqb b 10 found)
cut_feed (suc zero) (b ∷ bs) h before found other =
    row_on b bs (before 0 (omega arith)) (λ e _. other 0 refl e) ∙
    ap (onto b) (cut_feed zero bs (omega arith) (λ k l. absurd (omega arith)) found (λ k e. absurd (omega arith)))
cut_feed (suc (suc n)) (b ∷ bs) h before found other =
    row_on b bs (before 0 (omega arith)) (λ _ f. no_feed bs (λ _. before 1 (omega arith)) f) ∙
    ap (onto b) (cut_feed (suc n) bs (omega arith) (λ k l. before (suc k) (omega arith)) found (λ k e. other (suc k) (ap suc e)))

-- up to a carriage return with a line feed after it
cut_return :
    (n : ℕ) (bs : List ℕ) → suc n < length bs → ((k : ℕ) → k < suc n → get_or bs k 0 ≡ 10 → ⊥) → get_or bs n 0 ≡ 13 → get_or bs (suc n) 0 ≡ 10 →
    rows_of bs ≡ take n bs ∷ rows_of (drop (suc (suc n)) bs)
cut_return n [] h before back found = absurd (omega arith)
cut_return n (b ∷ []) h before back found = absurd (omega arith)
cut_return zero (b ∷ d ∷ bs) h before back found = rw (ne_eqb b 10 (before 0 (omega arith)), eq-eqb b 13 back, eq-eqb d 10 found)
cut_return (suc n) (b ∷ d ∷ bs) h before back found =
    row_on b (d ∷ bs) (before 0 (omega arith)) (λ _ f. no_feed (d ∷ bs) (λ _. before 1 (omega arith)) f) ∙
    ap (onto b) (cut_return n (d ∷ bs) (omega arith) (λ k l. before (suc k) (omega arith)) back found)

pub cut_return_at :
    (n e : ℕ) (bs : List ℕ) → suc n ≡ e → e < length bs → ((k : ℕ) → k < e → get_or bs k 0 ≡ 10 → ⊥) → get_or bs n 0 ≡ 13 → get_or bs e 0 ≡ 10 →
    rows_of bs ≡ take n bs ∷ rows_of (drop (suc e) bs)
cut_return_at n e bs q h before back found =
    let P : ℕ → Type 0 = λ z. z < length bs → ((k : ℕ) → k < z → get_or bs k 0 ≡ 10 → ⊥) → get_or bs z 0 ≡ 10 → rows_of bs ≡ take n bs ∷ rows_of (drop (suc z) bs) in
    subst P q (λ h b f. cut_return n bs h b back f) h before found

last_from : (b : ℕ) (bs : List ℕ) → ((k : ℕ) → k < length (b ∷ bs) → get_or (b ∷ bs) k 0 ≡ 10 → ⊥) → rows_of (b ∷ bs) ≡ (b ∷ bs) ∷ []
last_from b [] before = row_on b [] (before 0 (omega arith)) (λ _ f. true≢false (sym f))
last_from b (d ∷ bs) before =
    row_on b (d ∷ bs) (before 0 (omega arith)) (λ _ f. no_feed (d ∷ bs) (λ _. before 1 (omega arith)) f) ∙
    ap (onto b) (last_from d bs (λ k l. before (suc k) (omega arith)))

-- without a line feed there is one row
pub last_row : (bs : List ℕ) → 0 < length bs → ((k : ℕ) → k < length bs → get_or bs k 0 ≡ 10 → ⊥) → rows_of bs ≡ bs ∷ []
last_row [] h before = absurd (omega arith)
last_row (b ∷ bs) h before = last_from b bs before

-- What a reader leaves, as `&rest[i..]` has it.

pub left_shorter : (i : ℕ) (bs : List ℕ) → 0 < length bs → 0 < i → length (take (length bs - i) (drop i bs)) < length bs
left_shorter i bs h p = rw (take_rest bs i, length-drop i bs) (omega arith)

left_is : (e : ℕ) (bs : List ℕ) → rows_of (drop (suc e) bs) ≡ rows_of (take (length bs - (e + 1)) (drop (e + 1) bs))
left_is e bs = sym (ap rows_of (take_rest bs (e + 1)) ∙ ap (λ z. rows_of (drop z bs)) (add-one e))

pub takes_feed :
    (e : ℕ) (bs : List ℕ) → e < length bs → ((k : ℕ) → k < e → get_or bs k 0 ≡ 10 → ⊥) → get_or bs e 0 ≡ 10 → (0 < e → get_or bs (e - 1) 0 ≡ 13 → ⊥) →
    rows_of bs ≡ take e bs ∷ rows_of (take (length bs - (e + 1)) (drop (e + 1) bs))
takes_feed e bs h before found other =
    let apart : (k : ℕ) → suc k ≡ e → get_or bs k 0 ≡ 13 → ⊥ = λ k q r. (let p : e - 1 ≡ k = omega arith in other (omega arith) (ap (λ z. get_or bs z 0) p ∙ r)) in
    cut_feed e bs h before found apart ∙ ap (λ z. take e bs ∷ z) (left_is e bs)

pub takes_return :
    (e : ℕ) (bs : List ℕ) → 0 < e → e < length bs → ((k : ℕ) → k < e → get_or bs k 0 ≡ 10 → ⊥) → get_or bs e 0 ≡ 10 → get_or bs (e - 1) 0 ≡ 13 →
    rows_of bs ≡ take (e - 1) bs ∷ rows_of (take (length bs - (e + 1)) (drop (e + 1) bs))
takes_return e bs p h before found back =
    cut_return_at (e - 1) e bs (omega arith) h before back found ∙ ap (λ z. take (e - 1) bs ∷ z) (left_is e bs)

-- A row that a line feed ends is told without the carriage return before it.
pub takes_row :
    (e : ℕ) (bs row : List ℕ) → e < length bs → ((k : ℕ) → k < e → get_or bs k 0 ≡ 10 → ⊥) → get_or bs e 0 ≡ 10 →
    (0 < length (take e bs) → get_or (take e bs) (length (take e bs) - 1) 0 ≡ 13 → row ≡ take (length (take e bs) - 1) (take e bs)) →
    ((0 < length (take e bs) → get_or (take e bs) (length (take e bs) - 1) 0 ≢ 13) → row ≡ take e bs) →
    rows_of bs ≡ row ∷ rows_of (take (length bs - (e + 1)) (drop (e + 1) bs))
takes_row e bs row h before found cut whole = by (cases_lt 0 e) (cases_eq (get_or bs (e - 1) 0) 13)
  where
    long : length (take e bs) ≡ e
    long = length-take-le e bs (omega arith)

    last : 0 < e → get_or (take e bs) (length (take e bs) - 1) 0 ≡ get_or bs (e - 1) 0
    last p = ap (λ (n : ℕ). get_or (take e bs) (n - 1) 0) long ∙ get_or-take e bs (e - 1) 0 (omega arith)

    onto_row : (r : List ℕ) → row ≡ r → r ∷ rows_of (take (length bs - (e + 1)) (drop (e + 1) bs)) ≡ row ∷ rows_of (take (length bs - (e + 1)) (drop (e + 1) bs))
    onto_row r q = ap (λ (z : List ℕ). z ∷ rows_of (take (length bs - (e + 1)) (drop (e + 1) bs))) (sym q)

    by : (0 < e) ⊎ (e ≤ 0) → (get_or bs (e - 1) 0 ≡ 13) ⊎ (get_or bs (e - 1) 0 ≡ 13 → ⊥) → rows_of bs ≡ row ∷ rows_of (take (length bs - (e + 1)) (drop (e + 1) bs))
    by (inl p) (inl q) = takes_return e bs p h before found q ∙ onto_row (take (e - 1) bs) (cut (omega (arith, long)) (last p ∙ q) ∙ ap (λ (n : ℕ). take (n - 1) (take e bs)) long ∙ take-take (e - 1) e bs (omega arith))
    by (inl p) (inr q) = takes_feed e bs h before found (λ _. q) ∙ onto_row (take e bs) (whole (λ _ r. q (sym (last p) ∙ r)))
    by (inr p) q = takes_feed e bs h before found (λ r. absurd (omega arith)) ∙ onto_row (take e bs) (whole (λ r. absurd (omega (arith, long))))
