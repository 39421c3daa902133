-- Trials on a job: the search first marks what the pins order, which costs no trial, and only then goes on. So it has no more
-- trials before it than one from marks in which the pinned choices are not open.
use Rattle.std.proofs.Common.{◌≡◌, ℕ, suc, ◌+◌, ◌-◌, ◌^◌, ◌<◌, ◌≤◌, cond, List, [], ◌∷◌, length, get_or, set, replicate, IfOk, Some, None, Ok, Err, Option, Result, sym, refl, ap, ◌∙◌, subst, inl, inr, arith, length-set, get_or-set_other, get_or-set_same, pow_pos}
use lib.ListN.{length-replicate}
use Rattle.std.proofs.lemmas.Bool.{cases_eq, cases_lt}
use Rattle.book.specs.declared.Answer.{Answer}
use Rattle.book.specs.declared.Answer.TheVariants.{Yes as AnswerYes, No as AnswerNo}
use Rattle.book.specs.declared.Mark.{Mark}
use Rattle.book.specs.declared.Mark.TheVariants.{Open, Yes, No}
use Rattle.book.specs.declared.Reading.{Reading}
use Rattle.book.specs.declared.Reading.TheVariants.{Broken, Quiet, Forced}
use Rattle.book.specs.Books.{mark_of, open_mark, first_loud}
use Rattle.refusal.specs.declared.At.{At}
use Rattle.refusal.specs.declared.JobCause.{JobCause}
use Rattle.solver.specs.declared.Ending.TheVariants.{Found, None as NoneAllowed, Spent}
use Rattle.solver.specs.declared.Verdict.{Verdict}
use Rattle.solver.specs.Outcome.{Says, Searched}
use Rattle.solver.specs.Tree.{opens, Explores, broken, settled, forced, yes_side, no_side}
use Rattle.solver.proofs.Counts.{few}
use Rattle.solver.specs.Marks.{never_open, get_or_new}
use Rattle.standing.specs.Readings.{pins_reading, bans_reading}
use Rattle.standing.specs.Standing.{Standing}
use Rattle.job.specs.Jobs.{job_reading, without_pins, unpinned, FewTrials}
use Rattle.job.specs.PinLaws.{Way, against_one, orders, silent, way}

-- each mark that is made is a pin's
abbrev Ordered : List Mark → List Mark → Type 0
Ordered ps ms = (k : ℕ) (v : Answer) → get_or ms k Open ≡ mark_of v → get_or ps k Open ≡ mark_of v

-- marks that are open exactly where no pin is
same_open : (ps ms : List Mark) → ((k : ℕ) → k < length ms → open_mark (get_or ps k Open) ≡ open_mark (get_or ms k Open)) → opens ms ≡ without_pins (length ms) ps
same_open ps [] h = refl
same_open [] (m ∷ ms) h = rw (← h 0 (omega arith)) (ap suc (same_open [] ms (λ k l. h (suc k) (omega arith))))
same_open (p ∷ ps) (m ∷ ms) h = rw (h 0 (omega arith)) (ap (λ (j : ℕ). cond (open_mark m) (suc j) j) (same_open ps ms (λ k l. h (suc k) (omega arith))))

module _ (ps : List Mark) where
  -- where each pin is marked, and nothing else
  alike : (p m : Mark) → ((v : Answer) → m ≡ mark_of v → p ≡ mark_of v) → ((v : Answer) → p ≡ mark_of v → m ≡ Open → ⊥) → open_mark p ≡ open_mark m
  alike Open Open o f = refl
  alike Open Yes o f = absurd (never_open AnswerYes (sym (o AnswerYes refl)))
  alike Open No o f = absurd (never_open AnswerNo (sym (o AnswerNo refl)))
  alike Yes Open o f = absurd (f AnswerYes refl refl)
  alike Yes Yes o f = refl
  alike Yes No o f = refl
  alike No Open o f = absurd (f AnswerNo refl refl)
  alike No Yes o f = refl
  alike No No o f = refl

  quiet_opens : {ms : List Mark} {r : Reading} → Way ps ms r → r ≡ Quiet → Ordered ps ms → opens ms ≡ without_pins (length ms) ps
  quiet_opens (against_one d) e o = absurd (let z : ◌≡◌ {A = ℕ} 0 1 = cc in omega arith)
  quiet_opens (orders k v l p q) e o = absurd (let z : ◌≡◌ {A = ℕ} 0 1 = cc in omega arith)
  quiet_opens {ms} (silent d f) e o = same_open ps ms (λ k l. alike (get_or ps k Open) (get_or ms k Open) (o k) (λ v p q. f k v l p q))

  ordered_next : {ms : List Mark} {r : Reading} → Way ps ms r → (c : ℕ) (v : Answer) → r ≡ Forced c v → Ordered ps ms → Ordered ps (set ms (c - 1) (mark_of v))
  ordered_next (against_one d) c v e o = absurd (let z : ◌≡◌ {A = ℕ} 0 1 = cc in omega arith)
  ordered_next {ms} (orders k w l p q) c v e o =
      let ck : 1 + k ≡ c = cc in
      let wv : w ≡ v = cc in
      let at : c - 1 ≡ k = omega arith in
      rw at (λ j u f. elim (cases_eq j k) [
        | inl s ↦ rw s (p ∙ ap mark_of wv ∙ sym (get_or-set_same ms k (mark_of v) Open l) ∙ rw s at f)
        | inr s ↦ o j u (sym (get_or-set_other ms k j (mark_of v) Open s) ∙ f)
      ])
  ordered_next (silent d f) c v e o = absurd (let z : ◌≡◌ {A = ℕ} 0 1 = cc in omega arith)

quiet_first : (r s : Reading) → first_loud r s ≡ Quiet → r ≡ Quiet
quiet_first Broken s e = e
quiet_first Quiet s e = refl
quiet_first (Forced c v) s e = e

module _ (s : Standing) (reads : List Mark → Reading) where
  -- once the pins are quiet, what is left is a search from marks in which each pin is made
  from_quiet : {ms : List Mark} {t : ℕ} {o : Option (List Mark)} → Explores (job_reading s reads) ms t o → pins_reading s.pins ms ≡ Quiet → Ordered s.pins ms → t + 1 ≤ 2 ^ without_pins (length ms) s.pins
  from_quiet {ms} {t} x q o = subst (λ (k : ℕ). t + 1 ≤ 2 ^ k) (quiet_opens s.pins (way s.pins ms) q o) (few (job_reading s reads) x)

  few_from : {ms : List Mark} {t : ℕ} {o : Option (List Mark)} → Explores (job_reading s reads) ms t o → Ordered s.pins ms → t + 1 ≤ 2 ^ without_pins (length ms) s.pins
  few_from (broken ms e) or = pow_pos (without_pins (length ms) s.pins)
  few_from (settled ms e h) or = pow_pos (without_pins (length ms) s.pins)
  few_from (forced ms c v t o e x) or = by (λ q. few_from x q) (pins_reading s.pins ms) refl e
    where
      by : (Ordered s.pins (set ms (c - 1) (mark_of v)) → t + 1 ≤ 2 ^ without_pins (length (set ms (c - 1) (mark_of v))) s.pins) → (r : Reading) → pins_reading s.pins ms ≡ r → first_loud r (first_loud (bans_reading s.bans ms) (reads ms)) ≡ Forced c v → t + 1 ≤ 2 ^ without_pins (length ms) s.pins
      by on Broken q f = absurd (let z : ◌≡◌ {A = ℕ} 0 1 = cc in omega arith)
      by on Quiet q f = from_quiet (forced ms c v t o e x) q or
      by on (Forced d w) q f = rw length-set at (on (ordered_next s.pins (way s.pins ms) c v (q ∙ f) or))
  few_from (yes_side ms t a e h x) or = from_quiet (yes_side ms t a e h x) (quiet_first (pins_reading s.pins ms) _ e) or
  few_from (no_side ms t u o e h x y) or = from_quiet (no_side ms t u o e h x y) (quiet_first (pins_reading s.pins ms) _ e) or

  pub few_needed : (n t : ℕ) (o : Option (List Mark)) → Explores (job_reading s reads) (replicate n Open) t o → t + 1 ≤ 2 ^ unpinned n s
  few_needed n t o x = subst (λ (k : ℕ). t + 1 ≤ 2 ^ without_pins k s.pins) (length-replicate n Open) (few_from x (λ k v e. absurd (never_open v (sym e ∙ get_or_new n k))))

-- a search that says so needs no more trials than are allowed, unless it is spent
ends : (t a : ℕ) (o : Option (List Mark)) (v : Verdict) → Says t o a v → t ≤ a → (v.trials ≡ t) × (v.ending ≡ Spent → ⊥)
ends t a None v says h = let e = says.enough h in (ap (λ (u : Verdict). u.trials) e, λ q. let p : v.ending ≡ NoneAllowed = ap (λ (u : Verdict). u.ending) e in let z : ◌≡◌ {A = ℕ} 0 1 = cc in omega arith)
ends t a (Some b) v says h = let e = says.enough h in (ap (λ (u : Verdict). u.trials) e, λ q. let p : v.ending ≡ Found = ap (λ (u : Verdict). u.ending) e in let z : ◌≡◌ {A = ℕ} 0 1 = cc in omega arith)

pub few_trials : (n : ℕ) (s : Standing) (reads : List Mark → Reading) (t a : ℕ) (o : Option (List Mark)) (v : Verdict) → Explores (job_reading s reads) (replicate n Open) t o → Says t o a v → FewTrials n s a v
few_trials n s reads t a o v x says =
    let f = few_needed s reads n t o x in
    record {
      few = elim (cases_lt a t) [ inl h ↦ (let e : v.trials ≡ a = ap (λ (u : Verdict). u.trials) (says.short h) in omega arith) | inr h ↦ omega (arith, (ends t a o v says h).0) ];
      ample = λ h e. (ends t a o v says (omega arith)).1 e;
    }

pub searched_few : (n : ℕ) (s : Standing) (reads : List Mark → Reading) (a : ℕ) (ms ms' : List Mark) (w w' : List ℕ) (r : Result Verdict (At JobCause)) → Searched n (job_reading s reads) a ms w ms' w' r → IfOk r (λ v. FewTrials n s a v)
searched_few n s reads a ms ms' w w' (Ok v) f = few_trials n s reads f.needed a f.end v f.explores f.says
searched_few n s reads a ms ms' w w' (Err e) f = tt
