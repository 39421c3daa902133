-- For the private functions: boxes that clash with one, and runs of one name.
use Rattle.std.specs.Prelude.{◌≡◌, ℕ, ◌-◌, ◌<◌, ◌≤◌, true, List, length, take, drop, MatchOption, Option, ◌≢◌}
use Rattle.book.specs.declared.Mark.{Mark}
use Rattle.book.specs.declared.Mark.TheVariants.{Open, No}
use Rattle.box_book.specs.declared.NameBox.{NameBox}
use Rattle.box_book.specs.declared.marked.NameRun.{NameRun}
use Rattle.box_book.specs.declared.marked.NameRuns.{NameRuns}
use Rattle.box_book.specs.Causes.{box_at}
use Rattle.box_book.specs.Meaning.{mark_at, clashes}

-- the box at k has that mark and clashes with b
abbrev pub Clashes : List NameBox → List Mark → Mark → NameBox → ℕ → Type 0
Clashes bs ms m b k = (mark_at ms k ≡ m) × (clashes (box_at bs k) b ≡ true)

-- the boxes from s up to e have the name of the box at s, and the box at e another
pub record RunEnd (bs : List NameBox) (s e : ℕ) : Type 0 where
  pub after : s < e
  pub within : e ≤ length bs
  pub same : (k : ℕ) → s ≤ k → k < e → (box_at bs k).name ≡ (box_at bs s).name
  pub other : e < length bs → (box_at bs e).name ≢ (box_at bs s).name

-- a run of the boxes from s up to e
pub record IsRun (bs : List NameBox) (ms : List Mark) (s e : ℕ) (run : NameRun) : Type 0 where
  pub ends : RunEnd bs s e
  pub start : run.start ≡ s
  pub marks : run.marks.now ≡ take (e - s) (drop s ms)

-- the next run is taken; there is none if no box is ahead
abbrev pub GivesRun : NameRuns → Option NameRun → NameRuns → Type 0
GivesRun s r t = (t.list ≡ s.list) × MatchOption r ((length s.list.boxes.now ≤ s.start) × (t.start ≡ s.start)) (IsRun s.list.boxes.now s.list.marks.now s.start t.start)

-- all marks are no
abbrev pub AllNo : List Mark → Type 0
AllNo ms = (k : ℕ) → k < length ms → mark_at ms k ≡ No

-- the mark at k is open, and all others are no
abbrev pub OneOpen : List Mark → ℕ → Type 0
OneOpen ms k = (k < length ms) × (mark_at ms k ≡ Open) × ((j : ℕ) → j < length ms → j ≢ k → mark_at ms j ≡ No)
