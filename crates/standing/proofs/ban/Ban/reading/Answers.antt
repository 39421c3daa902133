use Rattle.std.proofs.Common.{rules, arith}
use Rattle.std.proofs.lemmas.Grind.{common_steps}
use borrow.Author.Tests.{tests}
use Rattle.standing.proofs.Findings.{none_lacks, one_is_away, one_lacks, two_lack}
use Rattle.standing.proofs.ban.Ban.reading.Goals as goal
use Rattle.standing.proofs.ban.Ban.reading.Goals.{else-is_open-via-then-is_open+else-is_none, else-is_open-via-else-is_open}

-- That the iterator goes over all members is told by `grind`, so that another way to take them all needs no other answers.
pub returns-in_default : goal.returns-in_default
returns-in_default c =
    none_lacks c.args.marks.now c.args.self.now c.filter_map-lacking.result _ (grind (arith, common_steps)) c.filter_map-lacking.ensures.closure (λ x b q k. search (rules, tests)) _ _ c.next.ensures.steps c.in_default.is

pub returns-then-is_none : goal.returns-then-is_none
returns-then-is_none c =
    rw c.not.ensures (one_lacks c.args.marks.now c.args.self.now c.filter_map-lacking.result _ (grind (arith, common_steps)) c.filter_map-lacking.ensures.closure (λ x b q k. search (rules, tests)) _ _ c.next.ensures.steps _ c.in-Some.is _ _ c.next-then-is_open.ensures.steps c.if-is_none.ensures c.if-is_open.true)

pub returns-else-is_open : goal.returns-else-is_open
returns-else-is_open c =
    elim c.else-is_open.branch [
      | else-is_open-via-then-is_open+else-is_none w ↦ two_lack c.args.marks.now c.args.self.now c.filter_map-lacking.result _ (grind (arith, common_steps)) c.filter_map-lacking.ensures.closure (λ x b q k. search (rules, tests)) _ _ c.next.ensures.steps _ c.in-Some.is _ _ w.next-then-is_open.ensures.steps w.if-is_none.ensures
      | else-is_open-via-else-is_open w ↦ one_is_away c.args.marks.now c.args.self.now c.filter_map-lacking.result _ (grind (arith, common_steps)) c.filter_map-lacking.ensures.closure (λ x b q k. search (rules, tests)) _ _ c.next.ensures.steps _ c.in-Some.is w.if-is_open.false
    ]
