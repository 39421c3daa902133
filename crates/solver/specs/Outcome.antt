-- What a search says and what it leaves in the lists that it is lent.
use Rattle.std.specs.Prelude.{◌≡◌, ℕ, ◌+◌, ◌^◌, ◌<◌, ◌≤◌, true, ◌⊎◌, List, length, replicate, is_ok, Some, None, Ok, Err, Option, Result, ◌≢◌}
use Rattle.book.specs.declared.Mark.{Mark}
use Rattle.book.specs.declared.Mark.TheVariants.{Open}
use Rattle.book.specs.declared.Reading.{Reading}
use Rattle.book.specs.Books.{Earlier}
use Rattle.refusal.specs.declared.JobCause.TheVariants.{ListLength}
use Rattle.refusal.specs.declared.At.{At}
use Rattle.refusal.specs.declared.JobCause.{JobCause}
use Rattle.solver.specs.declared.Ending.{Ending}
use Rattle.solver.specs.declared.Ending.TheVariants.{Found, None as NoneAllowed, Spent}
use Rattle.solver.specs.declared.Verdict.{Verdict}
use Rattle.solver.specs.Tree.{Explores}

-- the verdict of a search that goes to its end, after t trials, and comes to o
abbrev pub verdict_of : ℕ → Option (List Mark) → Verdict
verdict_of t (Some a) = record { ending = Found; trials = t }
verdict_of t None = record { ending = NoneAllowed; trials = t }

-- What a search with an allowance says, if it needs t trials and comes to o.
pub record Says (t : ℕ) (o : Option (List Mark)) (allowance : ℕ) (v : Verdict) : Type 0 where
  -- an allowance that suffices lets it go to its end
  pub enough : t ≤ allowance → v ≡ verdict_of t o
  -- any other is spent, to the last trial
  pub short : allowance < t → v ≡ record { ending = Spent; trials = allowance }

-- the marks after a search that comes to o: the arrangement if one is found, and open all else
abbrev pub MarksAfter : ℕ → Ending → Option (List Mark) → List Mark → Type 0
MarksAfter n Found o ms = o ≡ Some ms
MarksAfter n NoneAllowed o ms = ms ≡ replicate n Open
MarksAfter n Spent o ms = ms ≡ replicate n Open

-- A search that is not refused, by the lists before, the lists after and the verdict.
pub record Finished (n : ℕ) (reads : List Mark → Reading) (allowance : ℕ) (ms : List Mark) (w : List ℕ) (ms' : List Mark) (w' : List ℕ) (v : Verdict) : Type 0 where
  -- both lists are n long
  pub fits : (length ms ≡ n) × (length w ≡ n)
  -- the trials that a search from open marks needs, and what it comes to
  pub needed : ℕ
  pub end : Option (List Mark)
  pub explores : Explores reads (replicate n Open) needed end
  pub says : Says needed end allowance v
  -- what is left in the lists
  pub marks : MarksAfter n v.ending end ms'
  pub zeros : w' ≡ replicate n 0
  -- at most 2 ^ n - 1 trials are needed, so an allowance of that many is never spent
  pub few : needed + 1 ≤ 2 ^ n
  pub ample : 2 ^ n ≤ allowance + 1 → v.ending ≢ Spent

-- A search that is refused: a list is not n long, and both are as they were.
pub record Refused (n : ℕ) (ms : List Mark) (w : List ℕ) (ms' : List Mark) (w' : List ℕ) (e : At JobCause) : Type 0 where
  pub fault : e ≡ record { cause = ListLength; place = 0 }
  pub unfit : (length ms ≡ n) × (length w ≡ n) → ⊥
  pub marks_kept : ms' ≡ ms
  pub work_kept : w' ≡ w

abbrev pub Searched : ℕ → (List Mark → Reading) → ℕ → List Mark → List ℕ → List Mark → List ℕ → Result Verdict (At JobCause) → Type 0
Searched n reads allowance ms w ms' w' (Ok v) = Finished n reads allowance ms w ms' w' v
Searched n reads allowance ms w ms' w' (Err e) = Refused n ms w ms' w' e

-- what an ending means for the book: the marks are the first of all that it allows, or it allows none
abbrev pub Means : (List Mark → Type 0) → Ending → List Mark → Type 0
Means allows Found ms = allows ms × ((b : List Mark) → allows b → (ms ≡ b) ⊎ Earlier ms b)
Means allows NoneAllowed ms = (b : List Mark) → allows b → ⊥
Means allows Spent ms = Unit {0}

-- Equal books are searched alike. Two searches with one allowance, over books of n choices that read every n marks alike and with
-- lists of the same lengths, whatever those hold, say the same, and where they are not refused they leave the same lists. Neither
-- the kinds of the books nor what they allow has to be compared: a reading of marks with none open tells whether they are allowed.
abbrev pub Alike : ℕ → (List Mark → Reading) → Type 0
Alike n reads =
    (reads₂ : List Mark → Reading) → ((ms : List Mark) → length ms ≡ n → reads₂ ms ≡ reads ms) →
    (allowance : ℕ) (ms ms₂ : List Mark) (w w₂ : List ℕ) → length ms ≡ length ms₂ → length w ≡ length w₂ →
    (ms' ms₂' : List Mark) (w' w₂' : List ℕ) (r r₂ : Result Verdict (At JobCause)) →
    Searched n reads allowance ms w ms' w' r → Searched n reads₂ allowance ms₂ w₂ ms₂' w₂' r₂ →
    (r ≡ r₂) × (is_ok r ≡ true → (ms' ≡ ms₂') × (w' ≡ w₂'))

-- What the loop of a search comes to, from n open marks, with the marks as it leaves them: the private half of a search.
pub record Ran (n : ℕ) (reads : List Mark → Reading) (allowance : ℕ) (v : Verdict) (ms : List Mark) : Type 0 where
  pub needed : ℕ
  pub end : Option (List Mark)
  pub explores : Explores reads (replicate n Open) needed end
  pub says : Says needed end allowance v
  pub arrangement : v.ending ≡ Found → end ≡ Some ms
