-- What the pins say of marks, from a place on.
use Rattle.std.proofs.Common.{◌≡◌, ℕ, suc, ◌+◌, ◌<◌, ◌≤◌, min, Bool, true, false, cond, List, [], ◌∷◌, length, get_or, drop, Some, None, Option, Bor, Iter, refl, ap, ◌∙◌, inl, inr, zero-add, add-one, arith}
use Rattle.std.specs.declared.iter.Enumerate.{Enumerate}
use Rattle.std.specs.declared.iter.Zip.{Zip}
use Rattle.std.specs.Iterator.{Yields}
use Rattle.std.specs.Iterator.Adapters.{zip_first, zip_second, enumerate_source, enumerate_count, enumerate_steps}
use Rattle.std.specs.List.{zip, enumerate_from}
use Rattle.std.specs.Option.{unwrap_or}
use Rattle.std.specs.Slice.Iter.{iter_rest}
use Rattle.std.proofs.iter.Yields.{fronts}
use Rattle.std.proofs.lemmas.Iterator.{YieldsList, YieldsList-from_slice, YieldsList-from_zip, zips}
use Rattle.std.proofs.lemmas.Iterator.Consumers.{YieldsList-from_enumerate, YieldsList-turn, YieldsList-end}
use Rattle.std.proofs.lemmas.List.FromFn.{get_or-enumerate_from, length-enumerate_from}
use Rattle.std.proofs.lemmas.Slice.Zip.{length-zip, get_or-zip}
use Rattle.std.proofs.lemmas.List.{drop_more, drop_all}
use Rattle.std.proofs.lemmas.Bool.{cases_lt}
use Rattle.book.specs.declared.Answer.{Answer}
use Rattle.book.specs.declared.Mark.{Mark}
use Rattle.book.specs.declared.Reading.{Reading}
use Rattle.book.specs.declared.Reading.TheVariants.{Broken, Quiet, Forced}
use Rattle.book.specs.Books.{loud, first_loud}
use Rattle.standing.specs.Readings.{opposed, defied, pressed, forced_or, lowest_pin}
use Rattle.standing.specs.Steps.{pin_says}

-- what is read where earlier pins force that much, and the lists begin at choice c
abbrev pub read_on : Reading → ℕ → List Mark → List Mark → Reading
read_on f c ps ms = cond (defied ps ms) Broken (first_loud f (lowest_pin c ps ms))

earlier : (f : Reading) (c : ℕ) (o : Option Answer) (r : Reading) → first_loud f (forced_or c o r) ≡ first_loud (first_loud f (forced_or c o Quiet)) r
earlier Broken c o r = refl
earlier (Forced d v) c o r = refl
earlier Quiet c (Some v) r = refl
earlier Quiet c None r = refl

-- what one pin says comes before what the later ones say
abbrev after : Reading → Reading → ℕ → List Mark → List Mark → Reading
after Broken f c ps ms = Broken
after (Forced d v) f c ps ms = read_on (first_loud f (Forced d v)) c ps ms
after Quiet f c ps ms = read_on (first_loud f Quiet) c ps ms

by_pin : (b : Bool) (o : Option Answer) (f : Reading) (c : ℕ) (ps ms : List Mark) → cond (cond b true (defied ps ms)) Broken (first_loud f (forced_or c o (lowest_pin (suc c) ps ms))) ≡ after (cond b Broken (forced_or c o Quiet)) f (suc c) ps ms
by_pin true o f c ps ms = refl
by_pin false (Some v) f c ps ms = ap (λ (r : Reading). cond (defied ps ms) Broken r) (earlier f c (Some v) (lowest_pin (suc c) ps ms))
by_pin false None f c ps ms = ap (λ (r : Reading). cond (defied ps ms) Broken r) (earlier f c None (lowest_pin (suc c) ps ms))

not_broken : (r f : Reading) (c : ℕ) (ps ms : List Mark) → (r ≡ Broken → ⊥) → after r f c ps ms ≡ read_on (first_loud f r) c ps ms
not_broken Broken f c ps ms h = absurd (h refl)
not_broken (Forced d v) f c ps ms h = refl
not_broken Quiet f c ps ms h = refl

-- the first of two readings, as the code takes it
pub loud_or : (f r : Reading) → unwrap_or (loud f) r ≡ first_loud f r
loud_or Broken r = refl
loud_or (Forced c v) r = refl
loud_or Quiet r = refl

or_quiet : (f : Reading) → first_loud f Quiet ≡ f
or_quiet Broken = refl
or_quiet (Forced c v) = refl
or_quiet Quiet = refl

no_pins : (f : Reading) (c : ℕ) (ms : List Mark) → read_on f c [] ms ≡ f
no_pins f c ms = or_quiet f

no_marks : (f : Reading) (c : ℕ) (ps : List Mark) → read_on f c ps [] ≡ f
no_marks f c [] = or_quiet f
no_marks f c (p ∷ ps) = or_quiet f

pub read_all : (ps ms : List Mark) (f : Reading) (c i : ℕ) → min (length ps) (length ms) ≤ i → read_on f c (drop i ps) (drop i ms) ≡ f
read_all ps ms f c i h =
    elim (cases_lt i (length ps)) [
      | inl l ↦ let m : length ms ≤ i = omega arith in rw (drop_all i ms) (no_marks f c (drop i ps))
      | inr l ↦ rw (drop_all i ps) (no_pins f c (drop i ms))
    ]

-- a loop over the pins and the marks, each pair with its place
abbrev placed : ℕ × (Bor Mark × Bor Mark) → ℕ × (Mark × Mark)
placed p = (p.0, (p.1.0.now, p.1.1.now))

abbrev steps : Enumerate (Zip (Iter Mark) (Iter Mark)) → Option (ℕ × (Bor Mark × Bor Mark)) → Enumerate (Zip (Iter Mark) (Iter Mark)) → Type 0
steps = enumerate_steps (zips fronts fronts)

module _ (ps ms : List Mark) (s : Enumerate (Zip (Iter Mark) (Iter Mark))) (first : iter_rest (zip_first (enumerate_source s)) ≡ ps) (second : iter_rest (zip_second (enumerate_source s)) ≡ ms) (count : enumerate_count s ≡ 0) where
  pairs : YieldsList steps placed s (enumerate_from 0 (zip ps ms))
  pairs = YieldsList-from_enumerate (YieldsList-from_zip (YieldsList-from_slice ps first) (YieldsList-from_slice ms second)) count

  module _ (xs : List (ℕ × (Bor Mark × Bor Mark))) (t u : Enumerate (Zip (Iter Mark) (Iter Mark))) (y : Yields steps s xs t) (r : Option (ℕ × (Bor Mark × Bor Mark))) (next : steps t r u) (f : Reading) where
    -- what is read where that much is forced, from the place of the next pair on
    abbrev rest : Reading
    rest = read_on f (length xs + 1) (drop (length xs) ps) (drop (length xs) ms)

    module _ (p : ℕ × (Bor Mark × Bor Mark)) (e : r ≡ Some p) (x : Reading) (says : x ≡ pin_says (p.0 + 1) p.1.0.now p.1.1.now) where
      stepped : rest ≡ after x f (length xs + 1 + 1) (drop (length xs + 1) ps) (drop (length xs + 1) ms)
      stepped =
          let n = YieldsList-turn pairs xs t y r u p e next in
          let l : length xs < length (zip ps ms) = omega (arith, n.0, length-enumerate_from 0 (zip ps ms)) in
          let h : length xs < length ps = omega (arith, l, length-zip ps ms) in
          let k : length xs < length ms = omega (arith, l, length-zip ps ms) in
          at_place (length xs) p.1.0.now p.1.1.now h k (says ∙ ap (λ (z : ℕ × (Mark × Mark)). pin_says (z.0 + 1) z.1.0 z.1.1) (n.1 ∙ pair_at l h k))
        where
          pair_at : length xs < length (zip ps ms) → length xs < length ps → length xs < length ms → get_or (enumerate_from 0 (zip ps ms)) (length xs) (placed p) ≡ (length xs, (get_or ps (length xs) p.1.0.now, get_or ms (length xs) p.1.1.now))
          pair_at l h k = rw (get_or-enumerate_from 0 (zip ps ms) (length xs) (placed p) l, get_or-zip ps ms (length xs) (placed p).1 h k, zero-add (length xs))

          at_place : (i : ℕ) (a b : Mark) → i < length ps → i < length ms → x ≡ pin_says (i + 1) (get_or ps i a) (get_or ms i b) → read_on f (i + 1) (drop i ps) (drop i ms) ≡ after x f (i + 1 + 1) (drop (i + 1) ps) (drop (i + 1) ms)
          at_place i a b h k w = rw (drop_more ps i a, drop_more ms i b, add-one (i + 1), w) (by_pin (opposed (get_or ps i a) (get_or ms i b)) (pressed (get_or ps i a) (get_or ms i b)) f (i + 1) (drop (i + 1) ps) (drop (i + 1) ms))

      pub read_broken : x ≡ Broken → rest ≡ Broken
      read_broken b = stepped ∙ ap (λ (z : Reading). after z f (length xs + 1 + 1) (drop (length xs + 1) ps) (drop (length xs + 1) ms)) b

      pub read_more : (x ≡ Broken → ⊥) → rest ≡ read_on (first_loud f x) (length xs + 1 + 1) (drop (length xs + 1) ps) (drop (length xs + 1) ms)
      read_more b = stepped ∙ not_broken x f (length xs + 1 + 1) (drop (length xs + 1) ps) (drop (length xs + 1) ms) b

    pub read_end : r ≡ None → rest ≡ f
    read_end e =
        let n = (YieldsList-end pairs xs t y r u e next).1 in
        read_all ps ms f (length xs + 1) (length xs) (omega (arith, n, length-enumerate_from 0 (zip ps ms), length-zip ps ms))
