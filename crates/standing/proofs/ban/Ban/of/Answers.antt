use Rattle.standing.proofs.Rows.{shown, filled}
use Rattle.standing.proofs.ban.Ban.of.Goals as goal

pub invariant_of-result : goal.invariant_of-result
invariant_of-result c = (c.requires, filled c.args.members.now c.copy_from_slice.new.self c.copy_from_slice.ensures.after)

pub returns : goal.returns
returns c = shown c.args.members.now c.copy_from_slice.new.self c.copy_from_slice.ensures.after _
