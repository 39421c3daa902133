-- What follows a text takes no row from it, and leaves its first row as it is once a second has begun.
use Rattle.std.proofs.Common.{◌≡◌, ℕ, ◌+◌, ◌<◌, ◌≤◌, Bool, true, false, cond, ◌&&◌, eqb, ltb, ◌⊎◌, List, [], ◌∷◌, ◌++◌, length, is_some, Some, None, Option, sym, refl, ap, ◌∙◌, inl, inr, arith, MatchOption}
use Rattle.std.proofs.lemmas.Bool.{cases_Bool, true≢false, and_right, lt-ltb, le-ltb}
use Rattle.box_text.specs.Rows.{onto}
use Rattle.box_text.specs.Text.{feed_next, rows_of, heading, past_heading, headings}
use Rattle.box_list.specs.Spelling.{box_rows, row_at}
use Rattle.box_list.specs.Lists.{Refused, surplus}

-- whether a byte and what follows it end a row as a carriage return does
abbrev returns : ℕ → List ℕ → Bool
returns b bs = eqb b 13 && feed_next bs

-- the rows, by the first byte
data First (b : ℕ) (bs : List ℕ) : Type 0 where
  feed : eqb b 10 ≡ true → rows_of (b ∷ bs) ≡ [] ∷ rows_of bs → First b bs
  return : eqb b 10 ≡ false → returns b bs ≡ true → rows_of (b ∷ bs) ≡ rows_of bs → First b bs
  other : eqb b 10 ≡ false → returns b bs ≡ false → rows_of (b ∷ bs) ≡ onto b (rows_of bs) → First b bs

first : (b : ℕ) (bs : List ℕ) → First b bs
first b bs = at (cases_Bool (eqb b 10)) (cases_Bool (returns b bs))
  where
    at : (eqb b 10 ≡ true) ⊎ (eqb b 10 ≡ false) → (returns b bs ≡ true) ⊎ (returns b bs ≡ false) → First b bs
    at (inl e) r = feed e (rw e)
    at (inr e) (inl r) = return e r (rw (e, r))
    at (inr e) (inr r) = other e r (rw (e, r))

length_onto : (b : ℕ) (ps : List (List ℕ)) → 1 ≤ length ps → length (onto b ps) ≡ length ps
length_onto b [] h = absurd (omega arith)
length_onto b (p ∷ ps) h = refl

first_onto : (b : ℕ) (ps : List (List ℕ)) → row_at (onto b ps) 0 ≡ b ∷ row_at ps 0
first_onto b [] = refl
first_onto b (p ∷ ps) = refl

no_return : (b : ℕ) → returns b [] ≡ true → ⊥
no_return b r = true≢false (sym r ∙ and_right (eqb b 13) false refl)

-- after a first byte there is a row
some_row : (b : ℕ) (bs : List ℕ) → 1 ≤ length (rows_of (b ∷ bs))
some_row b [] = at (first b [])
  where
    at : First b [] → 1 ≤ length (rows_of (b ∷ []))
    at (feed e q) = omega (arith, ap length q)
    at (return e r q) = absurd (no_return b r)
    at (other e r q) = omega (arith, ap length q)
some_row b (d ∷ ds) = at (first b (d ∷ ds)) (some_row d ds)
  where
    at : First b (d ∷ ds) → 1 ≤ length (rows_of (d ∷ ds)) → 1 ≤ length (rows_of (b ∷ d ∷ ds))
    at (feed e q) h = omega (arith, ap length q)
    at (return e r q) h = omega (arith, ap length q)
    at (other e r q) h = omega (arith, ap length q, length_onto b (rows_of (d ∷ ds)) h)

-- the same byte before the same byte, with more that follows
module _ (b d : ℕ) (ds ys : List ℕ) where
  more_return : eqb b 10 ≡ false → returns b (d ∷ ds) ≡ true → rows_of (b ∷ d ∷ (ds ++ ys)) ≡ rows_of (d ∷ (ds ++ ys))
  more_return e r = rw (e, r)

  more_other : eqb b 10 ≡ false → returns b (d ∷ ds) ≡ false → rows_of (b ∷ d ∷ (ds ++ ys)) ≡ onto b (rows_of (d ∷ (ds ++ ys)))
  more_other e r = rw (e, r)

one_row : (b : ℕ) → length (rows_of (b ∷ [])) ≡ 1
one_row b = at (first b [])
  where
    at : First b [] → length (rows_of (b ∷ [])) ≡ 1
    at (feed e q) = ap length q
    at (return e r q) = absurd (no_return b r)
    at (other e r q) = ap length q

rows_more : (xs ys : List ℕ) → length (rows_of xs) ≤ length (rows_of (xs ++ ys))
rows_more [] ys = omega arith
rows_more (b ∷ []) ys = omega (arith, one_row b, some_row b ys)
rows_more (b ∷ d ∷ ds) ys = at (first b (d ∷ ds)) (rows_more (d ∷ ds) ys)
  where
    at : First b (d ∷ ds) → length (rows_of (d ∷ ds)) ≤ length (rows_of (d ∷ (ds ++ ys))) → length (rows_of (b ∷ d ∷ ds)) ≤ length (rows_of (b ∷ d ∷ (ds ++ ys)))
    at (feed e q) h = let q' : rows_of (b ∷ d ∷ (ds ++ ys)) ≡ [] ∷ rows_of (d ∷ (ds ++ ys)) = rw e in omega (arith, ap length q, ap length q')
    at (return e r q) h = omega (arith, ap length q, ap length (more_return b d ds ys e r))
    at (other e r q) h =
        omega (arith, ap length q, length_onto b (rows_of (d ∷ ds)) (some_row d ds), ap length (more_other b d ds ys e r), length_onto b (rows_of (d ∷ (ds ++ ys))) (some_row d (ds ++ ys)))

same_first : (xs ys : List ℕ) → 2 ≤ length (rows_of xs) → row_at (rows_of (xs ++ ys)) 0 ≡ row_at (rows_of xs) 0
same_first [] ys h = absurd (omega arith)
same_first (b ∷ []) ys h = absurd (omega (arith, one_row b))
same_first (b ∷ d ∷ ds) ys h = at (first b (d ∷ ds)) (same_first (d ∷ ds) ys)
  where
    at : First b (d ∷ ds) → (2 ≤ length (rows_of (d ∷ ds)) → row_at (rows_of (d ∷ (ds ++ ys))) 0 ≡ row_at (rows_of (d ∷ ds)) 0) → row_at (rows_of (b ∷ d ∷ (ds ++ ys))) 0 ≡ row_at (rows_of (b ∷ d ∷ ds)) 0
    at (feed e q) f = rw e
    at (return e r q) f = ap (λ (z : List (List ℕ)). row_at z 0) (more_return b d ds ys e r) ∙ f (omega (arith, ap length q)) ∙ sym (ap (λ (z : List (List ℕ)). row_at z 0) q)
    at (other e r q) f =
        let two : 2 ≤ length (rows_of (d ∷ ds)) = omega (arith, ap length q, length_onto b (rows_of (d ∷ ds)) (some_row d ds)) in
        ap (λ (z : List (List ℕ)). row_at z 0) (more_other b d ds ys e r) ∙ first_onto b (rows_of (d ∷ (ds ++ ys))) ∙ ap (λ (z : List ℕ). b ∷ z) (f two) ∙
        sym (ap (λ (z : List (List ℕ)). row_at z 0) q ∙ first_onto b (rows_of (d ∷ ds)))

-- rows are boxes but for a heading
boxes_and_headings : (rs : List (List ℕ)) → length (past_heading rs) + headings rs ≡ length rs
boxes_and_headings [] = refl
boxes_and_headings (r ∷ rs) = at (cases_Bool (heading r))
  where
    at : (heading r ≡ true) ⊎ (heading r ≡ false) → length (past_heading (r ∷ rs)) + headings (r ∷ rs) ≡ length (r ∷ rs)
    at (inl e) = rw e (omega arith)
    at (inr e) = rw e (omega arith)

headings_by : (rs ss : List (List ℕ)) → 1 ≤ length rs → 1 ≤ length ss → row_at rs 0 ≡ row_at ss 0 → headings rs ≡ headings ss
headings_by [] ss h k e = absurd (omega arith)
headings_by (r ∷ rs) [] h k e = absurd (omega arith)
headings_by (r ∷ rs) (s ∷ ss) h k e = ap (λ (z : List ℕ). cond (heading z) 1 0) e

-- A text with too many boxes, and what may follow it.
module _ (xs : List ℕ) (many : 4096 < length (box_rows xs)) (ys : List ℕ) where
  two_rows : 2 ≤ length (rows_of xs)
  two_rows = omega (arith, boxes_and_headings (rows_of xs))

  same_headings : headings (rows_of (xs ++ ys)) ≡ headings (rows_of xs)
  same_headings =
      headings_by (rows_of (xs ++ ys)) (rows_of xs) (omega (arith, rows_more xs ys, two_rows)) (omega (arith, two_rows)) (same_first xs ys two_rows)

  still_many : 4096 < length (box_rows (xs ++ ys))
  still_many =
      omega (arith, rows_more xs ys, same_headings, boxes_and_headings (rows_of xs), boxes_and_headings (rows_of (xs ++ ys)))

  pub refused_whatever_follows : Refused (xs ++ ys) (surplus xs)
  refused_whatever_follows = record { first = ((still_many, refl), λ d k x. tt); row = omega (arith, same_headings) }

-- the row of a box too many is there exactly if there are too many
pub tells_many : (xs : List ℕ) (P : ℕ → Type 0) (o : Option ℕ) → MatchOption o (length (box_rows xs) ≤ 4096) (λ row. (4096 < length (box_rows xs)) × P row) → is_some o ≡ ltb 4096 (length (box_rows xs))
tells_many xs P None h = sym (le-ltb 4096 (length (box_rows xs)) h)
tells_many xs P (Some row) h = sym (lt-ltb 4096 (length (box_rows xs)) h.0)
