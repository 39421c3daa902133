use Rattle.std.proofs.Common.{◌≡◌, drop, None}
use Rattle.standing.specs.Table.{member_fault}
use Rattle.standing.proofs.ban.Ban.new.Given as goal

-- what is left of the members gives the fault
abbrev pub invariant-loop-place : goal.invariant-loop-place
invariant-loop-place l = member_fault l.n.value l.before l.place (drop l.place l.members) None ≡ member_fault l.n.value 0 0 l.members None
