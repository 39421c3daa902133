-- A job as a book, and its search.
use Rattle.std.specs.Prelude.{ℕ, zero, suc, ◌+◌, ◌^◌, ◌≤◌, cond, List, [], ◌∷◌, Option, Result, ◌≢◌}
use Rattle.book.specs.declared.Mark.{Mark}
use Rattle.book.specs.declared.Reading.{Reading}
use Rattle.book.specs.Books.{open_mark, first_loud}
use Rattle.refusal.specs.declared.At.{At}
use Rattle.refusal.specs.declared.JobCause.{JobCause}
use Rattle.solver.specs.declared.Ending.TheVariants.{Spent}
use Rattle.solver.specs.declared.Verdict.{Verdict}
use Rattle.standing.specs.Standing.{Standing}
use Rattle.standing.specs.Readings.{pins_reading, bans_reading, Obeys, Avoids}
use Rattle.standing.specs.Rows.{standing_of}
use Rattle.standing.specs.Table.{Does}
use Rattle.job.specs.declared.Job.{Job}

-- what stands on a job
abbrev pub stands : {B : Type 0} → Job B → Standing
stands j = standing_of j.pins j.bans

-- the job over a book, with that standing
abbrev pub job_of : {B : Type 0} → B → Standing → Job B
job_of b s = record { book = b; pins = s.pins; bans = s.bans }

-- A call on job j that takes what stands on it to s, over the same book, where no ground for refusal stands; where one does,
-- that is told and j stays. j' is the job then.
abbrev pub Orders : {B : Type 0} → Option (At JobCause) → Standing → Job B → Result (Unit {0}) (At JobCause) → Job B → Type 0
Orders o s j r j' = Does o j (job_of j.book s) r j'

-- the first that has something to say: the pins, the bans, the book below
abbrev pub job_reading : Standing → (List Mark → Reading) → List Mark → Reading
job_reading s reads ms = first_loud (pins_reading s.pins ms) (first_loud (bans_reading s.bans ms) (reads ms))

-- the book below allows the arrangement, each pin has its answer there, and no ban has all its members there
pub record Permits (allows : List Mark → Type 0) (s : Standing) (a : List Mark) : Type 0 where
  pub by_book : allows a
  pub by_pins : Obeys s.pins a
  pub by_bans : Avoids s.bans a

-- how many of the first n choices have no pin; past the end of the list none has
abbrev pub without_pins : ℕ → List Mark → ℕ
without_pins zero ps = 0
without_pins (suc n) [] = suc (without_pins n [])
without_pins (suc n) (p ∷ ps) = cond (open_mark p) (suc (without_pins n ps)) (without_pins n ps)

-- how many choices of a sheet of n are not pinned
abbrev pub unpinned : ℕ → Standing → ℕ
unpinned n s = without_pins n s.pins

-- With f choices unpinned at most 2 ^ f - 1 trials are reported, and an allowance of so many is never spent.
pub record FewTrials (n : ℕ) (s : Standing) (allowance : ℕ) (v : Verdict) : Type 0 where
  pub few : v.trials + 1 ≤ 2 ^ unpinned n s
  pub ample : 2 ^ unpinned n s ≤ allowance + 1 → v.ending ≢ Spent
