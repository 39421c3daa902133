use Rattle.std.proofs.Common.{refl}
use Rattle.rule_file.specs.Reader.{none_seen}
use Rattle.rule_file.proofs.line.LineReader.admit.Goals as goal

pub returns-in-CountOpen : goal.returns-in-CountOpen
unfolding none_seen
returns-in-CountOpen c = rw c.in-CountOpen.is (refl, refl, (refl, refl))
