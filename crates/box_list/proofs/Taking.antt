-- The rows of a text, taken one after another.
use Rattle.std.proofs.Common.{◌≡◌, ℕ, ◌+◌, ◌<◌, ◌≤◌, ◌⊎◌, List, [], ◌∷◌, length, drop, MatchOption, Some, None, Option, Result, sym, ap, ◌∙◌, subst, inl, inr, arith}
use Rattle.std.specs.Iterator.{Yields, SkipsThenYields}
use Rattle.std.proofs.lemmas.List.{drop_more, drop_all}
use Rattle.std.proofs.lemmas.Bool.{cases_lt}
use Rattle.box_book.specs.declared.NameBox.{NameBox}
use Rattle.box_text.specs.declared.CellCause.{CellCause}
use Rattle.box_text.specs.declared.reader.RowReader.{RowReader}
use Rattle.box_text.specs.Reader.{ahead, GoesOver, Answers}
use Rattle.box_text.specs.Rows.{row_of}
use Rattle.box_list.specs.Spelling.{row_at}
use Rattle.box_list.proofs.RowCells.{CellsOf, cells_of}

-- a reader that has gone over i of the rows that are boxes, after h headings
pub record After (rows : List (List ℕ)) (h i : ℕ) (s : RowReader) : Type 0 where
  pub rest : ahead s ≡ drop i rows
  pub number : s.number ≡ h + i
  pub within : i ≤ length rows

nothing_left : (rows : List (List ℕ)) (i : ℕ) → drop i rows ≡ [] → length rows ≤ i
nothing_left rows i e = at (cases_lt i (length rows))
  where
    at : (i < length rows) ⊎ (length rows ≤ i) → length rows ≤ i
    at (inl l) = let f = drop_more rows i [] l in let z : ◌≡◌ {A = ℕ} 0 1 = cc in absurd (omega arith)
    at (inr l) = l

-- the next row is taken
module _ (rows : List (List ℕ)) (h i : ℕ) (s s' : RowReader) (row : List ℕ) (a : After rows h i s) (g : GoesOver row s s') where
  pub more : i < length rows
  more = at (cases_lt i (length rows))
    where
      at : (i < length rows) ⊎ (length rows ≤ i) → i < length rows
      at (inl l) = l
      at (inr l) = let f = drop_all i rows l in let e = a.rest in let e' = g.0 in let z : ◌≡◌ {A = ℕ} 0 1 = cc in absurd (omega arith)

  is_row : row ≡ row_at rows i
  is_row = let f = drop_more rows i [] more in let e = a.rest in let e' = g.0 in cc

  -- what was read of it are its cells
  pub row_cells : (a : Result NameBox CellCause) → a ≡ row_of row → CellsOf (row_at rows i) a
  row_cells a e = cells_of (row_at rows i) a (e ∙ ap row_of is_row)

  pub after_more : After rows h (i + 1) s'
  after_more = record {
    rest = let f = drop_more rows i [] more in let e = a.rest in let e' = g.0 in cc;
    number = omega (arith, g.1, a.number);
    within = omega (arith, more);
  }

-- no row is left
pub after_all : (rows : List (List ℕ)) (h i : ℕ) (s : RowReader) → After rows h i s → ahead s ≡ [] → length rows ≤ i
after_all rows h i s a e = nothing_left rows i (sym a.rest ∙ e)

pub after_none : (rows : List (List ℕ)) (h : ℕ) (s : RowReader) → ahead s ≡ rows → s.number ≡ h → After rows h 0 s
after_none rows h s e n = record { rest = e; number = omega arith; within = omega arith }

-- rows are taken one after another
after_rows : (rows : List (List ℕ)) (h i n : ℕ) (xs : List (Result NameBox CellCause)) (s t : RowReader) → i + length xs ≡ n → After rows h i s → Yields (λ p a q. Answers p q a) s xs t → After rows h n t
after_rows rows h i n [] s t e a y = let q : i ≡ n = omega arith in subst (λ (k : ℕ). After rows h k t) q (subst (After rows h i) y a)
after_rows rows h i n (x ∷ xs) s t e a y = let o = y.1 in after_rows rows h (i + 1) n xs y.0 t (omega arith) (after_more rows h i s y.0 o.0 a o.2) y.2

-- n rows are passed over, and a further one is taken, if there is one
pub passed :
    (rows : List (List ℕ)) (h n : ℕ) (s u : RowReader) (r : Option (Result NameBox CellCause)) → After rows h 0 s → SkipsThenYields (λ p a q. Answers p q a) s n r u →
    MatchOption r (length rows ≤ n) (λ _. (n < length rows) × After rows h (n + 1) u)
passed rows h n s u None a x =
    let t = x.1.0 in
    let b = after_rows rows h 0 (length x.0) x.0 s t (omega arith) a x.1.1 in
    let end = after_all rows h (length x.0) t b x.1.2.0 in
    omega (arith, x.2)
passed rows h n s u (Some v) a x =
    let t = x.1.0 in
    let o = x.1.2 in
    let b = after_rows rows h 0 n x.0 s t (omega (arith, x.2)) a x.1.1 in
    (more rows h n t u o.0 b o.2, after_more rows h n t u o.0 b o.2)
