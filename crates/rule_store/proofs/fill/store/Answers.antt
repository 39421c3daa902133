use Rattle.std.proofs.Common.{sym}
use lib.Seq.{set_out}
use Rattle.rule_store.proofs.fill.store.Goals as goal

pub returns-else-at-list : goal.returns-else-at-list
returns-else-at-list g c = sym (set_out c.args.list.now c.args.at c.args.value c.if-at-list.false)
