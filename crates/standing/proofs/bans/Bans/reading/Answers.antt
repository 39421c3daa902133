use Rattle.std.proofs.Common.{rules, ◌∙◌}
use Rattle.standing.proofs.FirstSaid.{first_said}
use Rattle.standing.proofs.bans.Bans.reading.Goals as goal

pub returns : goal.returns
returns c = c.unwrap_or.ensures ∙ first_said c.args.marks.now c.args.self.now c.find_map.result (search rules)
