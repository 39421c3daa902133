-- The grounds on which calls on pins and bans are refused, and what a call does.
use Rattle.std.specs.Prelude.{◌≡◌, ℕ, suc, ◌-◌, Bool, cond, ◌||◌, List, [], ◌∷◌, length, Some, None, Ok, Err, Option, Result, ◌==◌, nat_le, nat_lt, slice_index_or}
use Rattle.book.specs.declared.Mark.{Mark}
use Rattle.book.specs.declared.Mark.TheVariants.{Open}
use Rattle.book.specs.Books.{open_mark}
use Rattle.refusal.specs.declared.JobCause.{JobCause}
use Rattle.refusal.specs.declared.JobCause.TheVariants.{Choice, NotPinned, MemberCount, NotRising, BansFull, NoSuchBan}
use Rattle.refusal.specs.declared.At.{At}
use Rattle.standing.specs.declared.Member.{Member}

abbrev pub refused : JobCause → ℕ → Option (At JobCause)
refused c p = Some (record { cause = c; place = p })

-- no choice of a sheet of n: zero or above n
abbrev pub outside : ℕ → ℕ → Bool
outside n c = c == 0 || nat_lt n c

abbrev pub pin_fault : ℕ → ℕ → Option (At JobCause)
pin_fault n c = cond (outside n c) (refused Choice 0) None

abbrev pub free_fault : ℕ → List Mark → ℕ → Option (At JobCause)
free_fault n ps c = cond (outside n c) (refused Choice 0) (cond (open_mark (slice_index_or ps (c - 1) Open)) (refused NotPinned 0) None)

-- The first fault of members from index i on, the choice before them being p (0 before the first): a choice of no sheet of
-- n, then one that does not rise; where there is none, what else is said.
abbrev pub member_fault : ℕ → ℕ → ℕ → List Member → Option (At JobCause) → Option (At JobCause)
member_fault n p i [] rest = rest
member_fault n p i (m ∷ ms) rest = cond (outside n m.choice) (refused Choice i) (cond (nat_le m.choice p) (refused NotRising i) (member_fault n m.choice (suc i) ms rest))

-- a ban that is asked for where so many stand: one to eight members, then the members in turn, then room for it
abbrev pub ban_fault : ℕ → ℕ → List Member → Option (At JobCause)
ban_fault n count b = cond (length b == 0 || nat_lt 8 (length b)) (refused MemberCount 0) (member_fault n 0 0 b (cond (nat_le 64 count) (refused BansFull 0) None))

abbrev pub lift_fault : ℕ → ℕ → Option (At JobCause)
lift_fault count k = cond (k == 0 || nat_lt count k) (refused NoSuchBan 0) None

-- A call that takes s to t where no ground for refusal stands; where one does, that is told and s stays. s' is what stands then.
abbrev pub Does : {S : Type 0} → Option (At JobCause) → S → S → Result (Unit {0}) (At JobCause) → S → Type 0
Does o s t (Ok _) s' = (o ≡ None) × (s' ≡ t)
Does o s t (Err e) s' = (o ≡ Some e) × (s' ≡ s)
