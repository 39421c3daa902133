-- The verdict where the loop ends.
use Rattle.std.proofs.Common.{◌≡◌, ℕ, ◌+◌, ◌≤◌, false, List, length, replicate, Some, ap, arith}
use lib.ListN.{length-replicate}
use Rattle.book.specs.declared.Mark.{Mark}
use Rattle.book.specs.declared.Mark.TheVariants.{Open}
use Rattle.book.specs.declared.Reading.{Reading}
use Rattle.book.specs.declared.Reading.TheVariants.{Broken, Quiet}
use Rattle.book.specs.Books.{Laws}
use Rattle.solver.specs.declared.Ending.{Ending}
use Rattle.solver.specs.declared.Ending.TheVariants.{Found, None as NoneAllowed, Spent}
use Rattle.solver.specs.declared.Verdict.{Verdict}
use Rattle.solver.specs.declared.trail.Step.{Step}
use Rattle.solver.specs.Outcome.{Says, Ran}
use Rattle.solver.specs.Steps.{trail_of, Unwinds}
use Rattle.solver.specs.Tree.{first_open, Explores}
use Rattle.solver.specs.Marks.{opens_new}
use Rattle.solver.proofs.Meaning.{explored}
use Rattle.solver.proofs.State.{State, whole, state_found, state_spent, state_none}

abbrev verdict : Ending → ℕ → Verdict
verdict e t = record { ending = e; trials = t }

module _ (n : ℕ) (allows : List Mark → Type 0) (reads : List Mark → Reading) (laws : Laws n allows reads) (a d t : ℕ) (ms : List Mark) (w : List ℕ) (s : State reads n a d t ms w) where
  whole_explores : Explores reads (replicate n Open) (whole reads n).trials (whole reads n).found
  whole_explores = explored n allows reads laws n (replicate n Open) (opens_new n) (length-replicate n Open)

  ran : (e : Ending) (ms' : List Mark) → Says (whole reads n).trials (whole reads n).found a (verdict e t) → (e ≡ Found → (whole reads n).found ≡ Some ms') → Ran n reads a (verdict e t) ms'
  ran e ms' h f = record { needed = (whole reads n).trials; end = (whole reads n).found; explores = whole_explores; says = h; arrangement = f }

  pub ran_found : reads ms ≡ Quiet → length ms ≤ first_open ms → (ms' : List Mark) → ms' ≡ ms → Ran n reads a (verdict Found t) ms'
  ran_found e h ms' q =
      let f = state_found reads n a d t ms w s e h in
      ran Found ms' (record { enough = λ _. rw f.0 (ap (verdict Found) f.1); short = λ k. absurd (omega (arith, f.1, s.within)) }) (λ _. rw q f.0)

  pub ran_spent : (c : ℕ) → reads ms ≡ Quiet → c ≡ first_open ms + 1 → c ≤ length ms → t ≡ a → (ms' : List Mark) → Ran n reads a (verdict Spent t) ms'
  ran_spent c e fc h q ms' =
      let f = state_spent reads n a d t ms w c s e fc h in
      ran Spent ms' (record { enough = λ k. absurd (omega (arith, f)); short = λ k. ap (verdict Spent) q }) (λ k. cc)

  pub ran_none : (ms' : List Mark) (st' : List Step) → reads ms ≡ Broken → Unwinds (trail_of d w) ms ms' st' false → (ms'' : List Mark) → Ran n reads a (verdict NoneAllowed t) ms''
  ran_none ms' st' e u ms'' =
      let f = state_none reads n a d t ms ms' w st' s e u in
      ran NoneAllowed ms'' (record { enough = λ _. rw f.0 (ap (verdict NoneAllowed) f.1); short = λ q. absurd (omega (arith, f.1, s.within)) }) (λ k. cc)
