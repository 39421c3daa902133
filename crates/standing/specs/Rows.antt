-- What the tables hold.
use Rattle.std.specs.Prelude.{◌≡◌, ℕ, ◌-◌, ◌≤◌, List, ◌++◌, length, take, replicate}
use Rattle.std.proofs.Common.{ap, arith, length-append}
use Rattle.std.proofs.lemmas.List.{length-take, length-replicate}
use Rattle.book.specs.declared.Answer.TheVariants.{No}
use Rattle.book.specs.declared.Mark.{Mark}
use Rattle.standing.specs.declared.Member.{Member}
use Rattle.standing.specs.Standing.{Standing}

-- what a row holds past its members
abbrev pub no_member : Member
no_member = record { choice = 0; answer = No }

-- the row of some members
abbrev pub row_of : List Member → List Member
row_of ms = ms ++ replicate (8 - length ms) no_member

-- a row shows how many members it has
pub counted_back : (n : ℕ) (row : List Member) → n ≤ 8 → row ≡ row_of (take n row) → length (take n row) ≡ n
counted_back n row h e =
    omega (arith, length-take n row, ap length e, length-append (take n row) (replicate (8 - length (take n row)) no_member), length-replicate (8 - length (take n row)) no_member)

abbrev pub standing_of : List Mark → List (List Member) → Standing
standing_of ps bs = record { pins = ps; bans = bs }
