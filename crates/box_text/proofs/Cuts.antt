-- Where the bytes of a row are cut into cells.
use Rattle.std.proofs.Common.{◌≡◌, ℕ, zero, suc, ◌<◌, true, false, eqb, ◌⊎◌, List, [], ◌∷◌, length, get_or, take, drop, is_some, Some, None, Option, sym, refl, ap, ◌∙◌, inl, inr, arith, Bor}
use Rattle.std.proofs.lemmas.Bool.{cases_Bool, eq-eqb, ne_eqb, true≢false}
use Rattle.box_text.specs.Rows.{onto, cells, cells_of}

-- a byte that is no comma goes to the first cell
cell_on : (b : ℕ) (bs : List ℕ) → (b ≡ 44 → ⊥) → cells (b ∷ bs) ≡ onto b (cells bs)
cell_on b bs n = rw (ne_eqb b 44 n)

-- the first cell goes up to the first comma
pub cut_cell :
    (n : ℕ) (bs : List ℕ) → n < length bs → ((k : ℕ) → k < n → get_or bs k 0 ≡ 44 → ⊥) → get_or bs n 0 ≡ 44 →
    cells bs ≡ take n bs ∷ cells (drop (suc n) bs)
cut_cell n [] h before found = absurd (omega arith)
cut_cell zero (b ∷ bs) h before found = rw (eq-eqb b 44 found)
cut_cell (suc n) (b ∷ bs) h before found =
    cell_on b bs (before 0 (omega arith)) ∙ ap (onto b) (cut_cell n bs (omega arith) (λ k l. before (suc k) (omega arith)) found)

-- without a comma there is one cell
pub last_cell : (bs : List ℕ) → ((k : ℕ) → k < length bs → get_or bs k 0 ≡ 44 → ⊥) → cells bs ≡ bs ∷ []
last_cell [] before = refl
last_cell (b ∷ bs) before = cell_on b bs (before 0 (omega arith)) ∙ ap (onto b) (last_cell bs (λ k l. before (suc k) (omega arith)))

onto_some : (b : ℕ) (ps : List (List ℕ)) → 0 < length (onto b ps)
onto_some b [] = omega arith
onto_some b (p ∷ ps) = omega arith

-- a row has a cell
pub some_cell : (bs : List ℕ) → 0 < length (cells bs)
some_cell [] = omega arith
some_cell (b ∷ bs) = at (cases_Bool (eqb b 44))
  where
    at : (eqb b 44 ≡ true) ⊎ (eqb b 44 ≡ false) → 0 < length (cells (b ∷ bs))
    at (inl e) = rw e (omega arith)
    at (inr e) = rw e (onto_some b (cells bs))

-- what stands after a comma has a cell too
pub some_left : (o : Option (Bor (List ℕ))) → is_some o ≡ true → 0 < length (cells_of o)
some_left None e = absurd (true≢false (sym e))
some_left (Some x) e = some_cell x.now
