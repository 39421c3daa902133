-- Boxes that clash with one another, as properties of their places.
use Rattle.std.proofs.Common.{◌≡◌, ℕ, ◌+◌, ◌<◌, ◌≤◌, min, true, eqb, ◌⊎◌, List, length, is_some, unwrap_or, Some, None, Option, ◌≢◌, sym, refl, ap, ◌∙◌, subst, inl, inr, arith, Bor}
use Rattle.std.specs.Option.{option_or}
use Rattle.std.specs.Str.TwoWay.{IsFirst}
use Rattle.std.proofs.lemmas.Bool.{cases_lt, cases_eq, eq-eqb, eqb-true, and_from, and_parts, or_cases, or_left, or_right}
use Rattle.std.specs.Iterator.{Yields}
use Rattle.std.specs.Iterator.Adapters.{zip_first, zip_second}
use Rattle.std.specs.List.{zip}
use Rattle.std.specs.Slice.Iter.{iter_rest}
use Rattle.std.proofs.lemmas.Iterator.{YieldsList, YieldsList-from_slice, YieldsList-from_zip, zips}
use Rattle.std.proofs.lemmas.Fn.{fronts}
use Rattle.std.proofs.lemmas.Iterator.Consumers.{YieldsList-turn, YieldsList-end}
use Rattle.std.proofs.lemmas.List.{get_or_past, get_or_default}
use Rattle.std.proofs.lemmas.Slice.Zip.{get_or-zip, length-zip}
use Rattle.book.specs.declared.Mark.{Mark}
use Rattle.book.specs.declared.Mark.TheVariants.{Open, Yes, No}
use Rattle.book.specs.Books.{open_mark}
use Rattle.box_book.specs.declared.NameBox.{NameBox}
use Rattle.box_book.specs.Causes.{box_at, no_box}
use Rattle.box_book.specs.Places.{first_below}
use Rattle.box_book.specs.Meaning.{overlaps, clashes, mark_at}
use Rattle.box_book.specs.Readings.{is_mark, is_yes, clashes_at, clashed, crowded_at, blocked_at}
use Rattle.box_book.specs.Runs.{Clashes}
use Rattle.box_book.specs.Finds.{some_true, some_from, none_false, first_by}
use Rattle.box_book.specs.Laws.{yes_is, no_is, open_is, overlaps_swap}

mark_is : (m x : Mark) → is_mark m x ≡ true → x ≡ m
mark_is Open x e = open_is x e
mark_is Yes x e = yes_is x e
mark_is No x e = no_is x e

is_itself : (m : Mark) → is_mark m m ≡ true
is_itself Open = refl
is_itself Yes = refl
is_itself No = refl

clashes_swap : (a b : NameBox) → clashes a b ≡ true → clashes b a ≡ true
clashes_swap a b e = by (or_cases (eqb a.name b.name) (overlaps a b) e)
  where
    by : (eqb a.name b.name ≡ true) ⊎ (overlaps a b ≡ true) → clashes b a ≡ true
    by (inl q) = or_left (eqb b.name a.name) (overlaps b a) (eq-eqb b.name a.name (sym (eqb-true a.name b.name q)))
    by (inr q) = or_right (eqb b.name a.name) (overlaps b a) (overlaps_swap b a ∙ q)

module _ (bs : List NameBox) (ms : List Mark) where
  clash_tested : (m : Mark) (b : NameBox) (k : ℕ) → Clashes bs ms m b k → clashes_at bs ms m b k ≡ true
  clash_tested m b k c = and_from (is_mark m (mark_at ms k)) (clashes (box_at bs k) b) (ap (is_mark m) c.0 ∙ is_itself m) c.1

  clash_told : (m : Mark) (b : NameBox) (k : ℕ) → clashes_at bs ms m b k ≡ true → Clashes bs ms m b k
  clash_told m b k e = let p = and_parts (is_mark m (mark_at ms k)) (clashes (box_at bs k) b) e in (mark_is m (mark_at ms k) p.0, p.1)

  -- past the end of the list no mark is yes
  pub clashed_by : (b : NameBox) (end : ℕ) (r : Option ℕ) → length ms ≡ length bs → IsFirst (Clashes bs ms Yes b) 0 (min end (length bs)) r → is_some r ≡ clashed bs ms end b
  clashed_by b end (Some k) sized x = sym (some_from (clashes_at bs ms Yes b) end k (omega (arith, x.0.high)) (clash_tested Yes b k x.1))
  clashed_by b end None sized x = sym (none_false (clashes_at bs ms Yes b) end (λ k h e. by k h (clash_told Yes b k e) (cases_lt k (length bs))))
    where
      by : (k : ℕ) → k < end → Clashes bs ms Yes b k → (k < length bs) ⊎ (length bs ≤ k) → ⊥
      by k h c (inl l) = x k (omega arith) (omega arith) c
      by k h c (inr l) = let past : mark_at ms k ≡ Open = get_or_past ms k Open (omega arith) in let yes = c.0 in let z : ◌≡◌ {A = ℕ} 0 1 = cc in omega arith

  -- the box at k is yes and clashes with a yes box before it
  abbrev pub Crowds : ℕ → Type 0
  Crowds k = (mark_at ms k ≡ Yes) × (clashed bs ms k (box_at bs k) ≡ true)

  pub crowd_tested : (k : ℕ) → Crowds k → crowded_at bs ms k ≡ true
  crowd_tested k c = and_from (is_yes (mark_at ms k)) (clashed bs ms k (box_at bs k)) (ap is_yes c.0) c.1

  pub crowd_told : (k : ℕ) → crowded_at bs ms k ≡ true → Crowds k
  crowd_told k e = let p = and_parts (is_yes (mark_at ms k)) (clashed bs ms k (box_at bs k)) e in (yes_is (mark_at ms k) p.0, p.1)

  -- the box at k is open and clashes with a yes box before place j
  pub record Blocked (j k : ℕ) : Type 0 where
    pub opened : mark_at ms k ≡ Open
    pub other : ℕ
    pub before : other < j
    pub clash : Clashes bs ms Yes (box_at bs k) other

  pub blocked_none : (n : ℕ) → IsFirst (Blocked 0) 0 n None
  blocked_none n = λ k l h b. absurd (omega (arith, b.before))

  longer : (j k : ℕ) → Blocked j k → Blocked (j + 1) k
  longer j k b = record { opened = b.opened; other = b.other; before = omega (arith, b.before); clash = b.clash }

  -- it clashes with the last of them, or with one before
  shorter : (j k : ℕ) → Blocked (j + 1) k → ((mark_at ms j ≡ Yes) × Clashes bs ms Open (box_at bs j) k) ⊎ Blocked j k
  shorter j k b = by (cases_eq b.other j)
    where
      by : (b.other ≡ j) ⊎ (b.other ≡ j → ⊥) → ((mark_at ms j ≡ Yes) × Clashes bs ms Open (box_at bs j) k) ⊎ Blocked j k
      by (inl e) = let c = subst (Clashes bs ms Yes (box_at bs k)) e b.clash in inl (c.0, (b.opened, clashes_swap (box_at bs j) (box_at bs k) c.1))
      by (inr n) = inr (record { opened = b.opened; other = b.other; before = omega (arith, b.before); clash = b.clash })

  -- One more box is gone over.
  module _ (j n : ℕ) where
    pub blocked_same : (mark_at ms j ≢ Yes) → (f : Option ℕ) → IsFirst (Blocked j) 0 n f → IsFirst (Blocked (j + 1)) 0 n f
    blocked_same y f i = by f i
      where
        back : (k : ℕ) → Blocked (j + 1) k → Blocked j k
        back k b = elim (shorter j k b) [ inl c ↦ absurd (y c.0) | inr a ↦ a ]

        by : (f : Option ℕ) → IsFirst (Blocked j) 0 n f → IsFirst (Blocked (j + 1)) 0 n f
        by None i = λ k l h b. i k l h (back k b)
        by (Some r) i = (record { low = i.0.low; high = i.0.high; before = λ k l h b. i.0.before k l h (back k b) }, longer j r i.1)

    pub blocked_more :
        mark_at ms j ≡ Yes → (f g : Option ℕ) → IsFirst (Blocked j) 0 n f → IsFirst (Clashes bs ms Open (box_at bs j)) 0 (min (unwrap_or f n) n) g →
        IsFirst (Blocked (j + 1)) 0 n (option_or g f)
    blocked_more y f g i x = by f g i x
      where
        new : (k : ℕ) → Clashes bs ms Open (box_at bs j) k → Blocked (j + 1) k
        new k c = record { opened = c.0; other = j; before = omega arith; clash = (y, clashes_swap (box_at bs k) (box_at bs j) c.1) }

        none : (k : ℕ) → (Blocked j k → ⊥) → (Clashes bs ms Open (box_at bs j) k → ⊥) → Blocked (j + 1) k → ⊥
        none k p q b = elim (shorter j k b) [ inl c ↦ q c.1 | inr a ↦ p a ]

        by : (f g : Option ℕ) → IsFirst (Blocked j) 0 n f → IsFirst (Clashes bs ms Open (box_at bs j)) 0 (min (unwrap_or f n) n) g → IsFirst (Blocked (j + 1)) 0 n (option_or g f)
        by None None i x = λ k l h b. none k (i k l h) (x k l (omega arith)) b
        by None (Some r) i x = (record { low = x.0.low; high = omega (arith, x.0.high); before = λ k l h b. none k (i k l (omega (arith, x.0.high))) (x.0.before k l h) b }, new r x.1)
        by (Some r) None i x = (record { low = i.0.low; high = i.0.high; before = λ k l h b. none k (i.0.before k l h) (x k l (omega (arith, i.0.high))) b }, longer j r i.1)
        by (Some r) (Some t) i x = (record { low = x.0.low; high = omega (arith, x.0.high); before = λ k l h b. none k (i.0.before k l (omega (arith, x.0.high))) (x.0.before k l h) b }, new t x.1)

  -- all boxes were gone over
  pub blocked_all : (r : Option ℕ) → IsFirst (Blocked (length bs)) 0 (length bs) r → r ≡ first_below (blocked_at bs ms) (length bs)
  blocked_all r i = first_by (Blocked (length bs)) (blocked_at bs ms) (length bs) to from r i
    where
      to : (k : ℕ) → k < length bs → Blocked (length bs) k → blocked_at bs ms k ≡ true
      to k l b =
          and_from (open_mark (mark_at ms k)) (clashed bs ms (length bs) (box_at bs k)) (ap open_mark b.opened) (some_from (clashes_at bs ms Yes (box_at bs k)) (length bs) b.other b.before (clash_tested Yes (box_at bs k) b.other b.clash))

      from : (k : ℕ) → k < length bs → blocked_at bs ms k ≡ true → Blocked (length bs) k
      from k l e =
          let p = and_parts (open_mark (mark_at ms k)) (clashed bs ms (length bs) (box_at bs k)) e in
          let x = some_true (clashes_at bs ms Yes (box_at bs k)) (length bs) p.1 in
          record { opened = open_is (mark_at ms k) p.0; other = x.0; before = x.1; clash = clash_told Yes (box_at bs k) x.0 x.2 }

-- The boxes and the marks, gone over together.
module _ (bs : List NameBox) (ms : List Mark) (s t u : _) (xs : List (Bor NameBox × Bor Mark)) (r : Option (Bor NameBox × Bor Mark)) (front : iter_rest (zip_first s) ≡ bs) (second : iter_rest (zip_second s) ≡ ms) (so_far : Yields (zips fronts fronts) s xs t) (next : zips fronts fronts t r u) where
  road : YieldsList (zips fronts fronts) (λ p. (p.0.now, p.1.now)) s (zip bs ms)
  road = YieldsList-from_zip (YieldsList-from_slice bs front) (YieldsList-from_slice ms second)

  pub zip_item : (b : Bor NameBox) (m : Bor Mark) → r ≡ Some (b, m) → (b.now ≡ box_at bs (length xs)) × (m.now ≡ mark_at ms (length xs))
  zip_item b m e =
      let k = length xs in
      let x = YieldsList-turn road xs t so_far r u (b, m) e next in
      let l : k < min (length bs) (length ms) = omega (arith, x.0, length-zip bs ms) in
      let z = x.1 ∙ get_or-zip bs ms k (b.now, m.now) (omega arith) (omega arith) in
      (ap (λ (p : NameBox × Mark). p.0) z ∙ get_or_default bs k b.now no_box (omega arith), ap (λ (p : NameBox × Mark). p.1) z ∙ get_or_default ms k m.now Open (omega arith))

  pub zip_end : length ms ≡ length bs → r ≡ None → length xs ≡ length bs
  zip_end q e = let x = YieldsList-end road xs t so_far r u e next in omega (arith, x.1, length-zip bs ms)
