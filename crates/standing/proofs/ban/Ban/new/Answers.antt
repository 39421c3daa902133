use Rattle.std.proofs.Common.{sym, ◌∙◌}
use Rattle.standing.proofs.Members.{counted, fault_found}
use Rattle.standing.proofs.ban.Ban.new.Goals as goal

pub returns-in-Err-clause-told : goal.returns-in-Err-clause-told
returns-in-Err-clause-told c =
    sym (counted c.args.n.value 0 c.args.members.now (sym c.if-is_empty.ensures) c.if-members-gt-MAX_MEMBERS.false ∙ sym c.loop-place.invariant ∙
    fault_found c.args.n.value c.loop-place.before c.loop-place.place c.args.members.now _ _ c.loop-place-test.true c.in-Err.cause c.in-Err.ensures)
