-- A book that never forces: it is quiet while some mark is open, and then says whether the arrangement is allowed.
use Rattle.std.specs.Prelude.{◌≡◌, ℕ, ◌≤◌, Bool, true, false, cond, ltb, List, length, ◌≢◌, nat_lt, refl}
use Rattle.std.proofs.Common.{sym, ◌∙◌, ap, inl, inr, arith, ltb-false, le-ltb}
use Rattle.std.proofs.lemmas.Bool.{cases_Bool, both_ways}
use Rattle.book.specs.declared.Answer.{Answer}
use Rattle.book.specs.declared.Mark.{Mark}
use Rattle.book.specs.declared.Reading.{Reading}
use Rattle.book.specs.declared.Reading.TheVariants.{Broken, Quiet, Forced}
use Rattle.book.specs.Books.{Laws, Settled}
use Rattle.solver.specs.Tree.{first_open}
use Rattle.solver.specs.Marks.{before_first, settled_first, only_itself}

abbrev silent : (List Mark → Bool) → List Mark → Reading
silent ok ms = cond (nat_lt (first_open ms) (length ms)) Quiet (cond (ok ms) Quiet Broken)

broken_at : (b k : Bool) → cond b Quiet (cond k Quiet Broken) ≡ Broken → (b ≡ false) × (k ≡ false)
broken_at true k e = cc
broken_at false true e = cc
broken_at false false e = (refl, refl)

never_forced : (b k : Bool) (c : ℕ) (v : Answer) → cond b Quiet (cond k Quiet Broken) ≢ Forced c v
never_forced true k c v e = cc
never_forced false true c v e = cc
never_forced false false c v e = cc

pub silent_laws : (n : ℕ) (ok : List Mark → Bool) → n ≤ 4096 → Laws n (λ a. (length a ≡ n) × Settled a × (ok a ≡ true)) (silent ok)
silent_laws n ok small =
    record {
      small = small;
      sized = λ a h. (h.0, h.1);
      broken = λ ms l e a h x.
          let b = broken_at (nat_lt (first_open ms) (length ms)) (ok ms) e in
          let st : Settled ms = λ k q o. before_first ms k (omega (arith, ltb-false (first_open ms) (length ms) b.0)) o in
          both_ways (ok a) (ap ok (sym (only_itself ms a st x)) ∙ b.1) h.2;
      forced_open = λ ms c v l e. absurd (never_forced (nat_lt (first_open ms) (length ms)) (ok ms) c v e);
      forced = λ ms c v l e. absurd (never_forced (nat_lt (first_open ms) (length ms)) (ok ms) c v e);
      settled = λ ms l s.
          let e : ltb (first_open ms) (length ms) ≡ false = le-ltb (first_open ms) (length ms) (settled_first ms s) in
          elim (cases_Bool (ok ms)) [ inl k ↦ inl (rw (e, k), (l, s, k)) | inr k ↦ inr (rw (e, k), λ h. both_ways (ok ms) k h.2) ];
    }
