-- The laws of books, for every box list that is not too long.
use Rattle.std.proofs.Common.{◌≡◌, ℕ, ◌+◌, ◌-◌, ◌<◌, ◌≤◌, Bool, true, false, cond, not, ◌&&◌, ◌||◌, eqb, ltb, ◌⊎◌, List, length, Some, None, Option, sym, refl, ap, ◌∙◌, subst, inl, inr, arith}
use Rattle.std.specs.Str.TwoWay.{IsFirst}
use Rattle.std.proofs.lemmas.Bool.{cases_order, cases_eq, both_ways, true≢false, false≢true, not-true, not-false, eqb-true, eq-eqb, ne_eqb, and_parts, and_from, or_cases, or_parts}
use Rattle.book.specs.declared.Mark.{Mark}
use Rattle.book.specs.declared.Mark.TheVariants.{Open, Yes, No}
use Rattle.book.specs.declared.Answer.{Answer}
use Rattle.book.specs.declared.Answer.TheVariants.{Yes as AnswerYes, No as AnswerNo}
use Rattle.book.specs.declared.Reading.{Reading}
use Rattle.book.specs.declared.Reading.TheVariants.{Broken, Quiet, Forced}
use Rattle.book.specs.Books.{mark_of, open_mark, Extends, Settled, Laws}
use Rattle.box_book.specs.declared.NameBox.{NameBox}
use Rattle.box_book.specs.Causes.{box_at}
use Rattle.box_book.specs.Places.{some_below, first_below}
use Rattle.box_book.specs.Meaning.{overlaps, clashes, mark_at, Allowed}
use Rattle.box_book.specs.Readings.{is_yes, is_no, clashes_at, clashed, crowded_at, crowded, keeps_at, lost_at, lost, blocked_at, rivals_at, alone_at, pressed, boxes_reading}
use Rattle.box_book.specs.Finds.{some_true, some_from, some_false, first_is}

-- marks by their tests
pub yes_is : (m : Mark) → is_yes m ≡ true → m ≡ Yes
yes_is Open e = absurd (false≢true e)
yes_is Yes e = refl
yes_is No e = absurd (false≢true e)

pub no_is : (m : Mark) → is_no m ≡ true → m ≡ No
no_is Open e = absurd (false≢true e)
no_is Yes e = absurd (false≢true e)
no_is No e = refl

pub open_is : (m : Mark) → open_mark m ≡ true → m ≡ Open
open_is Open e = refl
open_is Yes e = absurd (false≢true e)
open_is No e = absurd (false≢true e)

must_no : (m : Mark) → (m ≡ Open → ⊥) → (m ≡ Yes → ⊥) → m ≡ No
must_no Open f g = absurd (f refl)
must_no Yes f g = absurd (g refl)
must_no No f g = refl

must_yes : (m : Mark) → (m ≡ Open → ⊥) → is_no m ≡ false → m ≡ Yes
must_yes Open f g = absurd (f refl)
must_yes Yes f g = refl
must_yes No f g = absurd (true≢false g)

yes_no : (m : Mark) → m ≡ Yes → m ≡ No → ⊥
yes_no m e f = let z : ◌≡◌ {A = ℕ} 0 1 = cc in omega arith

swap_and : (p q r s : Bool) → ((p && q) && (r && s)) ≡ ((q && p) && (s && r))
swap_and true true true true = refl
swap_and true true true false = refl
swap_and true true false true = refl
swap_and true true false false = refl
swap_and true false r s = refl
swap_and false true r s = refl
swap_and false false r s = refl

pub overlaps_swap : (a b : NameBox) → overlaps a b ≡ overlaps b a
overlaps_swap a b = swap_and (ltb a.left b.right) (ltb b.left a.right) (ltb a.top b.bottom) (ltb b.top a.bottom)

-- the ways in which a list comes to its reading
data Way (bs : List NameBox) (ms : List Mark) : Reading → Type 0 where
  crowd : crowded bs ms ≡ true → Way bs ms Broken
  gone : lost bs ms ≡ true → Way bs ms Broken
  block : (k : ℕ) → k < length bs → blocked_at bs ms k ≡ true → Way bs ms (Forced (k + 1) AnswerNo)
  lone : (k : ℕ) → k < length bs → alone_at bs ms k ≡ true → Way bs ms (Forced (k + 1) AnswerYes)
  calm : crowded bs ms ≡ false → lost bs ms ≡ false → Way bs ms Quiet

way : (bs : List NameBox) (ms : List Mark) → Way bs ms (boxes_reading bs ms)
way bs ms = by (crowded bs ms) (lost bs ms) refl refl
  where
    press : (b a : Option ℕ) → IsFirst (λ k. blocked_at bs ms k ≡ true) 0 (length bs) b → IsFirst (λ k. alone_at bs ms k ≡ true) 0 (length bs) a → crowded bs ms ≡ false → lost bs ms ≡ false → Way bs ms (pressed b a)
    press (Some b) a fb fa ec el = block b fb.0.high fb.1
    press None (Some a) fb fa ec el = lone a fa.0.high fa.1
    press None None fb fa ec el = calm ec el

    by : (c l : Bool) → crowded bs ms ≡ c → lost bs ms ≡ l → Way bs ms (cond (c || l) Broken (pressed (first_below (blocked_at bs ms) (length bs)) (first_below (alone_at bs ms) (length bs))))
    by true l ec el = crowd ec
    by false true ec el = gone el
    by false false ec el = press (first_below (blocked_at bs ms) (length bs)) (first_below (alone_at bs ms) (length bs)) (first_is (blocked_at bs ms) (length bs)) (first_is (alone_at bs ms) (length bs)) ec el

module _ (bs : List NameBox) (a : List Mark) (h : Allowed bs a) where
  -- yes boxes do not clash
  no_clash : (j k : ℕ) → j < length bs → k < length bs → (j ≡ k → ⊥) → mark_at a j ≡ Yes → mark_at a k ≡ Yes → clashes (box_at bs j) (box_at bs k) ≡ true → ⊥
  no_clash j k lj lk ne yj yk e = by (or_cases (eqb (box_at bs j).name (box_at bs k).name) (overlaps (box_at bs j) (box_at bs k)) e)
    where
      by : (eqb (box_at bs j).name (box_at bs k).name ≡ true) ⊎ (overlaps (box_at bs j) (box_at bs k) ≡ true) → ⊥
      by (inl q) = ne (h.single j k lj lk (eqb-true (box_at bs j).name (box_at bs k).name q) yj yk)
      by (inr q) = both_ways (overlaps (box_at bs j) (box_at bs k)) (h.apart j k lj lk ne yj yk) q

  module _ (ms : List Mark) (x : Extends ms a) where
    grown_yes : (k : ℕ) → is_yes (mark_at ms k) ≡ true → mark_at a k ≡ Yes
    grown_yes k e = x.1 k AnswerYes (yes_is (mark_at ms k) e)

    grown_no : (k : ℕ) → is_no (mark_at ms k) ≡ true → mark_at a k ≡ No
    grown_no k e = x.1 k AnswerNo (no_is (mark_at ms k) e)

    -- a yes box of the arrangement was not marked no
    seat_kept : (j m : ℕ) → (box_at bs j).name ≡ m → mark_at a j ≡ Yes → keeps_at bs ms m j ≡ true
    seat_kept j m e y = and_from (eqb (box_at bs j).name m) (not (is_no (mark_at ms j))) (eq-eqb (box_at bs j).name m e) (by (is_no (mark_at ms j)) refl)
      where
        by : (b : Bool) → is_no (mark_at ms j) ≡ b → not b ≡ true
        by true q = absurd (yes_no (mark_at a j) y (grown_no j q))
        by false q = refl

    not_crowded : crowded bs ms ≡ true → ⊥
    not_crowded e =
        let k = some_true (crowded_at bs ms) (length bs) e in
        let p = and_parts (is_yes (mark_at ms k.0)) (clashed bs ms k.0 (box_at bs k.0)) k.2 in
        let j = some_true (clashes_at bs ms Yes (box_at bs k.0)) k.0 p.1 in
        let q = and_parts (is_yes (mark_at ms j.0)) (clashes (box_at bs j.0) (box_at bs k.0)) j.2 in
        no_clash j.0 k.0 (omega (arith, j.1, k.1)) k.1 (λ z. omega (arith, j.1)) (grown_yes j.0 q.0) (grown_yes k.0 p.0) q.1

    not_lost : lost bs ms ≡ true → ⊥
    not_lost e =
        let k = some_true (lost_at bs ms) (length bs) e in
        let s = h.seated k.0 k.1 in
        let m = (box_at bs k.0).name in
        both_ways (some_below (keeps_at bs ms m) (length bs)) (not-true (some_below (keeps_at bs ms m) (length bs)) k.2) (some_from (keeps_at bs ms m) (length bs) s.0 s.1 (seat_kept s.0 m s.2 s.3))

    way_broken : {r : Reading} → Way bs ms r → r ≡ Broken → ⊥
    way_broken (crowd e) q = not_crowded e
    way_broken (gone e) q = not_lost e
    way_broken (block k l e) q = let z : ◌≡◌ {A = ℕ} 0 1 = cc in omega arith
    way_broken (lone k l e) q = let z : ◌≡◌ {A = ℕ} 0 1 = cc in omega arith
    way_broken (calm c l) q = let z : ◌≡◌ {A = ℕ} 0 1 = cc in omega arith

    blocked_no : (k : ℕ) → k < length bs → blocked_at bs ms k ≡ true → mark_at a k ≡ No
    blocked_no k l e =
        let p = and_parts (open_mark (mark_at ms k)) (clashed bs ms (length bs) (box_at bs k)) e in
        let j = some_true (clashes_at bs ms Yes (box_at bs k)) (length bs) p.1 in
        let q = and_parts (is_yes (mark_at ms j.0)) (clashes (box_at bs j.0) (box_at bs k)) j.2 in
        must_no (mark_at a k) (h.settled k (omega (arith, h.sized))) (λ y. no_clash j.0 k j.1 l (λ z. apart j.0 z q.0 p.0) (grown_yes j.0 q.0) y q.1)
      where
        apart : (j : ℕ) → j ≡ k → is_yes (mark_at ms j) ≡ true → open_mark (mark_at ms k) ≡ true → ⊥
        apart j z y o =
            let u : mark_at ms j ≡ Yes = yes_is (mark_at ms j) y in
            let v : mark_at ms k ≡ Open = open_is (mark_at ms k) o in
            let w : ◌≡◌ {A = ℕ} 0 1 = cc in
            omega arith

    alone_yes : (k : ℕ) → k < length bs → alone_at bs ms k ≡ true → mark_at a k ≡ Yes
    alone_yes k l e =
        let p = and_parts (open_mark (mark_at ms k)) (not (some_below (rivals_at bs ms k) (length bs))) e in
        let s = h.seated k l in
        let none = some_false (rivals_at bs ms k) (length bs) (not-true (some_below (rivals_at bs ms k) (length bs)) p.1) s.0 s.1 in
        by s.0 s.2 s.3 none (cases_eq s.0 k)
      where
        by : (j : ℕ) → (box_at bs j).name ≡ (box_at bs k).name → mark_at a j ≡ Yes → rivals_at bs ms k j ≡ false → (j ≡ k) ⊎ (j ≡ k → ⊥) → mark_at a k ≡ Yes
        by j m y n (inl z) = subst (λ (i : ℕ). mark_at a i ≡ Yes) z y
        by j m y n (inr z) =
            let f : not (eqb j k) ≡ true = ap not (ne_eqb j k z) in
            absurd (both_ways (rivals_at bs ms k j) n (and_from (not (eqb j k)) (keeps_at bs ms (box_at bs k).name j) f (seat_kept j (box_at bs k).name m y)))

    way_forced : {r : Reading} → Way bs ms r → (c : ℕ) (v : Answer) → r ≡ Forced c v → mark_at a (c - 1) ≡ mark_of v
    way_forced (crowd e) c v q = absurd (let z : ◌≡◌ {A = ℕ} 0 1 = cc in omega arith)
    way_forced (gone e) c v q = absurd (let z : ◌≡◌ {A = ℕ} 0 1 = cc in omega arith)
    way_forced (block k l e) c v q =
        let y : k + 1 ≡ c = cc in
        let w : AnswerNo ≡ v = cc in
        let z : c - 1 ≡ k = omega arith in
        rw (z, ← w) (blocked_no k l e)
    way_forced (lone k l e) c v q =
        let y : k + 1 ≡ c = cc in
        let w : AnswerYes ≡ v = cc in
        let z : c - 1 ≡ k = omega arith in
        rw (z, ← w) (alone_yes k l e)
    way_forced (calm d l) c v q = absurd (let z : ◌≡◌ {A = ℕ} 0 1 = cc in omega arith)

way_open : (bs : List NameBox) (ms : List Mark) {r : Reading} → Way bs ms r → (c : ℕ) (v : Answer) → r ≡ Forced c v → (0 < c) × (c ≤ length bs) × (mark_at ms (c - 1) ≡ Open)
way_open bs ms (crowd e) c v q = absurd (let z : ◌≡◌ {A = ℕ} 0 1 = cc in omega arith)
way_open bs ms (gone e) c v q = absurd (let z : ◌≡◌ {A = ℕ} 0 1 = cc in omega arith)
way_open bs ms (block k l e) c v q =
    let y : k + 1 ≡ c = cc in
    let z : c - 1 ≡ k = omega arith in
    let o = and_parts (open_mark (mark_at ms k)) (clashed bs ms (length bs) (box_at bs k)) e in
    (omega arith, omega arith, rw z (open_is (mark_at ms k) o.0))
way_open bs ms (lone k l e) c v q =
    let y : k + 1 ≡ c = cc in
    let z : c - 1 ≡ k = omega arith in
    let o = and_parts (open_mark (mark_at ms k)) (not (some_below (rivals_at bs ms k) (length bs))) e in
    (omega arith, omega arith, rw z (open_is (mark_at ms k) o.0))
way_open bs ms (calm d l) c v q = absurd (let z : ◌≡◌ {A = ℕ} 0 1 = cc in omega arith)

-- marks with none open, and with no fault in them, are allowed
module _ (bs : List NameBox) (ms : List Mark) (sized : length ms ≡ length bs) (s : Settled ms) (ec : crowded bs ms ≡ false) (el : lost bs ms ≡ false) where
  pair_apart : (j k : ℕ) → j < k → k < length bs → mark_at ms j ≡ Yes → mark_at ms k ≡ Yes → clashes (box_at bs j) (box_at bs k) ≡ false
  pair_apart j k lj lk yj yk = by (clashes (box_at bs j) (box_at bs k)) refl
    where
      by : (b : Bool) → clashes (box_at bs j) (box_at bs k) ≡ b → b ≡ false
      by true e =
          let p = and_from (is_yes (mark_at ms j)) (clashes (box_at bs j) (box_at bs k)) (ap is_yes yj) e in
          let q = some_from (clashes_at bs ms Yes (box_at bs k)) k j lj p in
          let r = and_from (is_yes (mark_at ms k)) (clashed bs ms k (box_at bs k)) (ap is_yes yk) q in
          absurd (both_ways (crowded_at bs ms k) (some_false (crowded_at bs ms) (length bs) ec k lk) r)
      by false e = refl

  pair_parts : (j k : ℕ) → j < k → k < length bs → mark_at ms j ≡ Yes → mark_at ms k ≡ Yes → (eqb (box_at bs j).name (box_at bs k).name ≡ false) × (overlaps (box_at bs j) (box_at bs k) ≡ false)
  pair_parts j k lj lk yj yk = or_parts (eqb (box_at bs j).name (box_at bs k).name) (overlaps (box_at bs j) (box_at bs k)) (pair_apart j k lj lk yj yk)

  single : (i j : ℕ) → i < length bs → j < length bs → (box_at bs i).name ≡ (box_at bs j).name → mark_at ms i ≡ Yes → mark_at ms j ≡ Yes → i ≡ j
  single i j li lj e yi yj = by (cases_order i j)
    where
      by : (i ≡ j) ⊎ ((i < j) ⊎ (j < i)) → i ≡ j
      by (inl q) = q
      by (inr (inl q)) = absurd (both_ways (eqb (box_at bs i).name (box_at bs j).name) (pair_parts i j q lj yi yj).0 (eq-eqb (box_at bs i).name (box_at bs j).name e))
      by (inr (inr q)) = absurd (both_ways (eqb (box_at bs j).name (box_at bs i).name) (pair_parts j i q li yj yi).0 (eq-eqb (box_at bs j).name (box_at bs i).name (sym e)))

  apart : (i j : ℕ) → i < length bs → j < length bs → (i ≡ j → ⊥) → mark_at ms i ≡ Yes → mark_at ms j ≡ Yes → overlaps (box_at bs i) (box_at bs j) ≡ false
  apart i j li lj ne yi yj = by (cases_order i j)
    where
      by : (i ≡ j) ⊎ ((i < j) ⊎ (j < i)) → overlaps (box_at bs i) (box_at bs j) ≡ false
      by (inl q) = absurd (ne q)
      by (inr (inl q)) = (pair_parts i j q lj yi yj).1
      by (inr (inr q)) = overlaps_swap (box_at bs i) (box_at bs j) ∙ (pair_parts j i q li yj yi).1

  seated : (k : ℕ) → k < length bs → (j : ℕ) × (j < length bs) × ((box_at bs j).name ≡ (box_at bs k).name) × (mark_at ms j ≡ Yes)
  seated k l =
      let m = (box_at bs k).name in
      let t = some_below (keeps_at bs ms m) (length bs) in
      let j = some_true (keeps_at bs ms m) (length bs) (not-false t (some_false (lost_at bs ms) (length bs) el k l)) in
      let p = and_parts (eqb (box_at bs j.0).name m) (not (is_no (mark_at ms j.0))) j.2 in
      (j.0, j.1, eqb-true (box_at bs j.0).name m p.0, must_yes (mark_at ms j.0) (s j.0 (omega (arith, j.1))) (not-true (is_no (mark_at ms j.0)) p.1))

  all_allowed : Allowed bs ms
  all_allowed = record { sized = sized; settled = s; seated = seated; single = single; apart = apart }

same_extends : (ms : List Mark) → Extends ms ms
same_extends ms = (refl, λ k v e. e)

way_settled : (bs : List NameBox) (ms : List Mark) → length ms ≡ length bs → Settled ms → {r : Reading} → Way bs ms r → ((r ≡ Quiet) × Allowed bs ms) ⊎ ((r ≡ Broken) × (Allowed bs ms → ⊥))
way_settled bs ms n s (crowd e) = inr (refl, λ h. not_crowded bs ms h ms (same_extends ms) e)
way_settled bs ms n s (gone e) = inr (refl, λ h. not_lost bs ms h ms (same_extends ms) e)
way_settled bs ms n s (block k l e) =
    let o = and_parts (open_mark (mark_at ms k)) (clashed bs ms (length bs) (box_at bs k)) e in
    absurd (s k (omega arith) (open_is (mark_at ms k) o.0))
way_settled bs ms n s (lone k l e) =
    let o = and_parts (open_mark (mark_at ms k)) (not (some_below (rivals_at bs ms k) (length bs))) e in
    absurd (s k (omega arith) (open_is (mark_at ms k) o.0))
way_settled bs ms n s (calm c l) = inl (refl, all_allowed bs ms n s c l)

pub box_laws : (bs : List NameBox) → length bs ≤ 4096 → Laws (length bs) (Allowed bs) (boxes_reading bs)
box_laws bs few = record {
  small = few;
  sized = λ a h. (h.sized, h.settled);
  broken = λ ms l e a h x. way_broken bs a h ms x (way bs ms) e;
  forced_open = λ ms c v l e. way_open bs ms (way bs ms) c v e;
  forced = λ ms c v l e a h x. way_forced bs a h ms x (way bs ms) c v e;
  settled = λ ms l s. way_settled bs ms l s (way bs ms);
}
