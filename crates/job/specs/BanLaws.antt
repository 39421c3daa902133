-- Bans read as a lawful book that allows what avoids them.
use Rattle.std.specs.Prelude.{◌≡◌, ℕ, zero, suc, ◌-◌, ◌<◌, ◌≤◌, Bool, true, false, cond, ◌⊎◌, List, [], ◌∷◌, length, get_or, ◌==◌, ◌≢◌, nat_lt, slice_index_or, refl}
use Rattle.std.proofs.Common.{sym, ◌∙◌, ap, subst, inl, inr, arith}
use Rattle.std.proofs.lemmas.List.{get_or_past}
use Rattle.std.proofs.lemmas.Bool.{eqb-true, eqb-false, ltb-true, ltb-false}
use Rattle.book.specs.declared.Answer.{Answer}
use Rattle.book.specs.declared.Answer.TheVariants.{Yes as AnswerYes, No as AnswerNo}
use Rattle.book.specs.declared.Mark.{Mark}
use Rattle.book.specs.declared.Mark.TheVariants.{Open, Yes, No}
use Rattle.book.specs.declared.Reading.TheVariants.{Broken, Quiet, Forced}
use Rattle.book.specs.Books.{mark_of, Laws, Extends, Settled, other_answer}
use Rattle.solver.specs.Marks.{never_open}
use Rattle.standing.specs.declared.Member.{Member}
use Rattle.standing.specs.Readings.{Finding, whole, lacking, neither, one_open, by_mark, member_finds, ban_finds, finding_reads, ban_reading, bans_reading, There, AllThere, Avoids}
use Rattle.job.specs.Layers.{before, reworded}
use Rattle.job.specs.PinLaws.{apart}

-- what a finding tells of the members
abbrev Tells : List Mark → List Member → Finding → Type 0
Tells ms b whole = (a : List Mark) → Extends ms a → AllThere b a
Tells ms b (lacking c v) = (0 < c) × (c ≤ length ms) × (slice_index_or ms (c - 1) Open ≡ Open) × ((a : List Mark) → Extends ms a → slice_index_or a (c - 1) Open ≡ mark_of v → AllThere b a)
Tells ms b neither = Settled ms → AllThere b ms → ⊥

module _ (ms : List Mark) (m : Member) (b : List Member) where
  -- a member that is there
  there : (f : Finding) → There m ms → Tells ms b f → Tells ms (m ∷ b) f
  there whole t w = λ a x. ((t.0, x.1 (m.choice - 1) m.answer t.1), w a x)
  there (lacking c v) t w = (w.0, w.1, w.2, λ a x q. ((t.0, x.1 (m.choice - 1) m.answer t.1), w.3 a x q))
  there neither t w = λ st al. w st al.1

  module _ (f : Finding) (w : Tells ms b f) where
    module _ (p : 0 < m.choice) (l : m.choice - 1 < length ms) where
      -- a member whose choice is open
      undecided : (g : Finding) → Tells ms b g → slice_index_or ms (m.choice - 1) Open ≡ Open → Tells ms (m ∷ b) (one_open m.choice m.answer g)
      undecided whole t o = (p, omega arith, o, λ a x q. ((p, q), t a x))
      undecided (lacking c v) t o = λ st al. st (m.choice - 1) l o
      undecided neither t o = λ st al. st (m.choice - 1) l o

      by : (k : Mark) (v : Answer) → slice_index_or ms (m.choice - 1) Open ≡ k → m.answer ≡ v → Tells ms (m ∷ b) (by_mark m.choice v k f)
      by Open v e q = subst (λ (u : Answer). Tells ms (m ∷ b) (one_open m.choice u f)) q (undecided f w e)
      by Yes AnswerYes e q = there f (p, e ∙ ap mark_of (sym q)) w
      by Yes AnswerNo e q = λ st al. apart (sym e ∙ al.0.1 ∙ ap mark_of q)
      by No AnswerYes e q = λ st al. apart (sym (al.0.1 ∙ ap mark_of q) ∙ e)
      by No AnswerNo e q = there f (p, e ∙ ap mark_of (sym q)) w

    on_sheet : 0 < m.choice → (y : Bool) → nat_lt (m.choice - 1) (length ms) ≡ y → Tells ms (m ∷ b) (cond y (by_mark m.choice m.answer (slice_index_or ms (m.choice - 1) Open) f) neither)
    on_sheet p true t = by p (ltb-true (m.choice - 1) (length ms) t) (slice_index_or ms (m.choice - 1) Open) m.answer refl refl
    on_sheet p false t = λ st al. never_open m.answer (sym al.0.1 ∙ get_or_past ms (m.choice - 1) Open (ltb-false (m.choice - 1) (length ms) t))

    member_tells : Tells ms (m ∷ b) (member_finds ms m f)
    member_tells = at (m.choice == 0) refl
      where
        at : (y : Bool) → (m.choice == 0) ≡ y → Tells ms (m ∷ b) (cond y neither (cond (nat_lt (m.choice - 1) (length ms)) (by_mark m.choice m.answer (slice_index_or ms (m.choice - 1) Open) f) neither))
        at true t = λ st al. omega (arith, eqb-true m.choice 0 t, al.0.0)
        at false t = on_sheet (above m.choice (eqb-false m.choice 0 t)) (nat_lt (m.choice - 1) (length ms)) refl
          where
            above : (c : ℕ) → (c ≢ 0) → 0 < c
            above zero h = absurd (h refl)
            above (suc c) h = omega arith

tells : (ms : List Mark) (b : List Member) → Tells ms b (ban_finds ms b)
tells ms [] = λ a x. tt
tells ms (m ∷ b) = member_tells ms m b (ban_finds ms b) (tells ms b)

-- a choice that has not the one answer has the other
turned : (v : Answer) (m : Mark) → (m ≢ Open) → (m ≢ mark_of v) → m ≡ mark_of (other_answer v)
turned v Open o h = absurd (o refl)
turned AnswerYes Yes o h = absurd (h refl)
turned AnswerYes No o h = refl
turned AnswerNo Yes o h = refl
turned AnswerNo No o h = absurd (h refl)

module _ (n : ℕ) (b : List Member) where
  abbrev Allowed : List Mark → Type 0
  Allowed a = (length a ≡ n) × Settled a × (AllThere b a → ⊥)

  finds_broken : (f : Finding) (ms : List Mark) → Tells ms b f → finding_reads f ≡ Broken → (a : List Mark) → Allowed a → Extends ms a → ⊥
  finds_broken whole ms w e a h x = h.2 (w a x)
  finds_broken (lacking c v) ms w e a h x = let z : ◌≡◌ {A = ℕ} 0 1 = cc in omega arith
  finds_broken neither ms w e a h x = let z : ◌≡◌ {A = ℕ} 0 1 = cc in omega arith

  finds_open : (f : Finding) (ms : List Mark) → Tells ms b f → length ms ≡ n → (c : ℕ) (v : Answer) → finding_reads f ≡ Forced c v → (0 < c) × (c ≤ n) × (slice_index_or ms (c - 1) Open ≡ Open)
  finds_open whole ms w l c v e = absurd (let z : ◌≡◌ {A = ℕ} 0 1 = cc in omega arith)
  finds_open (lacking d u) ms w l c v e = let q : d ≡ c = cc in (omega (arith, w.0), omega (arith, w.1), rw (sym q) w.2)
  finds_open neither ms w l c v e = absurd (let z : ◌≡◌ {A = ℕ} 0 1 = cc in omega arith)

  finds_forced : (f : Finding) (ms : List Mark) → Tells ms b f → (c : ℕ) (v : Answer) → finding_reads f ≡ Forced c v → (a : List Mark) → Allowed a → Extends ms a → slice_index_or a (c - 1) Open ≡ mark_of v
  finds_forced whole ms w c v e a h x = absurd (let z : ◌≡◌ {A = ℕ} 0 1 = cc in omega arith)
  finds_forced (lacking d u) ms w c v e a h x =
      let q : d ≡ c = cc in
      let r : other_answer u ≡ v = cc in
      let t : get_or a (d - 1) Open ≡ mark_of (other_answer u) = turned u (slice_index_or a (d - 1) Open) (h.1 (d - 1) (omega (arith, w.0, w.1, x.0))) (λ y. h.2 (w.3 a x y)) in
      ap (λ (k : ℕ). get_or a (k - 1) Open) (sym q) ∙ t ∙ ap mark_of r
  finds_forced neither ms w c v e a h x = absurd (let z : ◌≡◌ {A = ℕ} 0 1 = cc in omega arith)

  finds_settled : (f : Finding) (ms : List Mark) → Tells ms b f → length ms ≡ n → Settled ms → ((finding_reads f ≡ Quiet) × Allowed ms) ⊎ ((finding_reads f ≡ Broken) × (Allowed ms → ⊥))
  finds_settled whole ms w l st = inr (refl, λ h. h.2 (w ms (refl, λ k v q. q)))
  finds_settled (lacking c v) ms w l st = absurd (st (c - 1) (omega (arith, w.0, w.1)) w.2)
  finds_settled neither ms w l st = inl (refl, (l, st, w st))

  ban_laws : n ≤ 4096 → Laws n Allowed (λ ms. ban_reading ms b)
  ban_laws small =
      record {
        small = small;
        sized = λ a h. (h.0, h.1);
        broken = λ ms l e a h x. finds_broken (ban_finds ms b) ms (tells ms b) e a h x;
        forced_open = λ ms c v l e. finds_open (ban_finds ms b) ms (tells ms b) l c v e;
        forced = λ ms c v l e a h x. finds_forced (ban_finds ms b) ms (tells ms b) c v e a h x;
        settled = λ ms l s. finds_settled (ban_finds ms b) ms (tells ms b) l s;
      }

-- one ban before the others; with none, every arrangement of n choices is allowed and nothing follows
pub bans_laws : (n : ℕ) (bs : List (List Member)) → n ≤ 4096 → Laws n (λ a. (length a ≡ n) × Settled a × Avoids bs a) (bans_reading bs)
bans_laws n [] small =
    record {
      small = small;
      sized = λ a h. (h.0, h.1);
      broken = λ ms l e. absurd (let z : ◌≡◌ {A = ℕ} 0 1 = cc in omega arith);
      forced_open = λ ms c v l e. absurd (let z : ◌≡◌ {A = ℕ} 0 1 = cc in omega arith);
      forced = λ ms c v l e. absurd (let z : ◌≡◌ {A = ℕ} 0 1 = cc in omega arith);
      settled = λ ms l s. inl (refl, (l, s, tt));
    }
bans_laws n (b ∷ bs) small =
    reworded n _ _ _ (λ a h. (h.0.0, h.0.1, (h.0.2, h.1.2))) (λ a h. ((h.0, h.1, h.2.0), (h.0, h.1, h.2.1)))
    (before n _ _ _ _ (ban_laws n b small) (bans_laws n bs small))
