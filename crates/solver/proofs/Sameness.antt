-- Equal books are searched alike.
use Rattle.std.proofs.Common.{◌≡◌, ℕ, true, List, length, is_ok, Ok, Err, Option, Result, sym, ap, ◌∙◌, inl, inr}
use lib.ListN.{length-replicate}
use Rattle.std.proofs.lemmas.Bool.{cases_lt}
use Rattle.book.specs.declared.Mark.{Mark}
use Rattle.book.specs.declared.Mark.TheVariants.{Open}
use Rattle.book.specs.declared.Reading.{Reading}
use Rattle.refusal.specs.declared.At.{At}
use Rattle.refusal.specs.declared.JobCause.{JobCause}
use Rattle.solver.specs.declared.Ending.{Ending}
use Rattle.solver.specs.declared.Ending.TheVariants.{Found, None as NoneAllowed, Spent}
use Rattle.solver.specs.declared.Verdict.{Verdict}
use Rattle.solver.specs.Outcome.{Says, MarksAfter, Finished, Searched, Alike}
use Rattle.solver.proofs.Counts.{single, carried}

same_verdict : (t a : ℕ) (o : Option (List Mark)) (v v₂ : Verdict) → Says t o a v → Says t o a v₂ → v ≡ v₂
same_verdict t a o v v₂ s s₂ = elim (cases_lt a t) [ inl q ↦ s.short q ∙ sym (s₂.short q) | inr q ↦ s.enough q ∙ sym (s₂.enough q) ]

same_marks : (n : ℕ) (e : Ending) (o : Option (List Mark)) (ms ms₂ : List Mark) → MarksAfter n e o ms → MarksAfter n e o ms₂ → ms ≡ ms₂
same_marks n Found o ms ms₂ h h₂ = cc
same_marks n NoneAllowed o ms ms₂ h h₂ = h ∙ sym h₂
same_marks n Spent o ms ms₂ h h₂ = h ∙ sym h₂

module _ (n : ℕ) (reads reads₂ : List Mark → Reading) (agree : (ms : List Mark) → length ms ≡ n → reads₂ ms ≡ reads ms) (a : ℕ) (ms ms₂ : List Mark) (w w₂ : List ℕ) where
  same_finished : (ms' ms₂' : List Mark) (w' w₂' : List ℕ) (v v₂ : Verdict) → Finished n reads a ms w ms' w' v → Finished n reads₂ a ms₂ w₂ ms₂' w₂' v₂ → (v ≡ v₂) × (ms' ≡ ms₂') × (w' ≡ w₂')
  same_finished ms' ms₂' w' w₂' v v₂ f f₂ =
      let s = single reads (carried n reads reads₂ agree (length-replicate n Open) f₂.explores) f.explores in
      let says : Says f.needed f.end a v₂ = rw (s.0, s.1) at f₂.says in
      let same : v ≡ v₂ = same_verdict f.needed a f.end v v₂ f.says says in
      let marks : MarksAfter n v.ending f.end ms₂' = rw same (rw s.1 at f₂.marks) in
      (same, same_marks n v.ending f.end ms' ms₂' f.marks marks, f.zeros ∙ sym f₂.zeros)

  same_searched : length ms ≡ length ms₂ → length w ≡ length w₂ → (ms' ms₂' : List Mark) (w' w₂' : List ℕ) (r r₂ : Result Verdict (At JobCause)) →
      Searched n reads a ms w ms' w' r → Searched n reads₂ a ms₂ w₂ ms₂' w₂' r₂ → (r ≡ r₂) × (is_ok r ≡ true → (ms' ≡ ms₂') × (w' ≡ w₂'))
  same_searched lm lw ms' ms₂' w' w₂' (Ok v) (Ok v₂) f f₂ = let s = same_finished ms' ms₂' w' w₂' v v₂ f f₂ in (ap Ok s.0, λ _. (s.1, s.2))
  same_searched lm lw ms' ms₂' w' w₂' (Ok v) (Err e₂) f f₂ = absurd (f₂.unfit (sym lm ∙ f.fits.0, sym lw ∙ f.fits.1))
  same_searched lm lw ms' ms₂' w' w₂' (Err e) (Ok v₂) f f₂ = absurd (f.unfit (lm ∙ f₂.fits.0, lw ∙ f₂.fits.1))
  same_searched lm lw ms' ms₂' w' w₂' (Err e) (Err e₂) f f₂ = (ap Err (f.fault ∙ sym f₂.fault), λ q. cc)

pub alike : (n : ℕ) (reads : List Mark → Reading) → Alike n reads
alike n reads reads₂ agree a ms ms₂ w w₂ lm lw ms' ms₂' w' w₂' r r₂ s s₂ = same_searched n reads reads₂ agree a ms ms₂ w w₂ lm lw ms' ms₂' w' w₂' r r₂ s s₂
