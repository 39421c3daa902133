use Rattle.std.proofs.Common.{sym, ◌∙◌, refl, arith}
use Rattle.solver.proofs.State.{forced_room, trial_room, state_start, state_forced, state_trial, state_turned, state_counted}
use Rattle.solver.proofs.Verdicts.{ran_found, ran_spent, ran_none}
use Rattle.solver.proofs.run.Goals as goal

pub loop-reading-init : goal.loop-reading-init
loop-reading-init g c =
    ((refl, refl), rw (c.new-trail.ensures.empty, c.new-trail.ensures.marks.1, c.new-trail.ensures.work.1) (state_start _ _ _ c.args.marks.now c.args.work.now c.requires.0 c.requires.1))

pub push-requires : goal.push-requires
push-requires g c =
    rw c.forced.ensures (forced_room _ _ _ _ (g.met.B.Book.lawful c.args.book.now) _ _ _ _ _ _ c.loop-reading.invariant.1 (rw c.marks.ensures at (sym c.in-Ok.ensures.1 ∙ c.in-Forced.is)))

pub loop-reading-smaller-in-Forced : goal.loop-reading-smaller-in-Forced
loop-reading-smaller-in-Forced g c =
    (state_forced _ _ _ _ (g.met.B.Book.lawful c.args.book.now) _ _ _ _ _ _ _ _ _ c.loop-reading.invariant.1 (rw c.marks.ensures at (sym c.in-Ok.ensures.1 ∙ c.in-Forced.is))
    (rw (c.forced.ensures, c.from.ensures) at c.push.ensures.marked) c.push.new.self.long (rw c.forced.ensures at c.push.ensures.noted)).1

pub loop-reading-preserved-in-Forced : goal.loop-reading-preserved-in-Forced
loop-reading-preserved-in-Forced g c = (
  (c.push.ensures.same.0 ∙ c.loop-reading.invariant.0.0, c.push.ensures.same.1 ∙ c.loop-reading.invariant.0.1),
  (state_forced _ _ _ _ (g.met.B.Book.lawful c.args.book.now) _ _ _ _ _ _ _ _ _ c.loop-reading.invariant.1 (rw c.marks.ensures at (sym c.in-Ok.ensures.1 ∙ c.in-Forced.is))
      (rw (c.forced.ensures, c.from.ensures) at c.push.ensures.marked) c.push.new.self.long (rw c.forced.ensures at c.push.ensures.noted)).0,
)

pub push-requires-in-Some-2 : goal.push-requires-in-Some-2
push-requires-in-Some-2 g c =
    let k = rw (c.marks-in-Quiet.ensures, ← c.in-Some-2.choice-is) at c.in-Some-2.ensures in
    rw c.trial.ensures (trial_room _ _ _ _ _ _ _ _ c.loop-reading.invariant.1 k.0 k.1)

pub loop-reading-smaller-in-Some-2 : goal.loop-reading-smaller-in-Some-2
loop-reading-smaller-in-Some-2 g c =
    let k = rw (c.marks-in-Quiet.ensures, ← c.in-Some-2.choice-is) at c.in-Some-2.ensures in
    (state_trial _ _ _ _ _ _ _ _ _ _ _ c.loop-reading.invariant.1 (rw c.marks.ensures at (sym c.in-Ok.ensures.1 ∙ c.in-Quiet.is)) k.0 k.1 c.if-trials-allowance.false
    (rw c.trial.ensures at c.push-in-Some-2.ensures.marked) c.push-in-Some-2.new.self.long (rw c.trial.ensures at c.push-in-Some-2.ensures.noted)).1

pub loop-reading-preserved-in-Some-2 : goal.loop-reading-preserved-in-Some-2
loop-reading-preserved-in-Some-2 g c =
    let k = rw (c.marks-in-Quiet.ensures, ← c.in-Some-2.choice-is) at c.in-Some-2.ensures in (
      (c.push-in-Some-2.ensures.same.0 ∙ c.loop-reading.invariant.0.0, c.push-in-Some-2.ensures.same.1 ∙ c.loop-reading.invariant.0.1),
      (state_trial _ _ _ _ _ _ _ _ _ _ _ c.loop-reading.invariant.1 (rw c.marks.ensures at (sym c.in-Ok.ensures.1 ∙ c.in-Quiet.is)) k.0 k.1 c.if-trials-allowance.false
          (rw c.trial.ensures at c.push-in-Some-2.ensures.marked) c.push-in-Some-2.new.self.long (rw c.trial.ensures at c.push-in-Some-2.ensures.noted)).0,
    )

pub loop-reading-smaller : goal.loop-reading-smaller
loop-reading-smaller g c =
    (state_turned _ _ _ _ _ _ _ _ _ _ c.loop-reading.invariant.1 (rw c.marks.ensures at (sym c.in-Ok.ensures.1 ∙ c.in-Broken.is)) c.turn.new.self.long c.if-not-turn.ensures.turned).1

pub loop-reading-preserved : goal.loop-reading-preserved
loop-reading-preserved g c = (
  (c.turn.ensures.same.0 ∙ c.loop-reading.invariant.0.0, c.turn.ensures.same.1 ∙ c.loop-reading.invariant.0.1),
  -- no turn is counted
  state_counted _ _ _ _ _ _ _ _
      (state_turned _ _ _ _ _ _ _ _ _ _ c.loop-reading.invariant.1 (rw c.marks.ensures at (sym c.in-Ok.ensures.1 ∙ c.in-Broken.is)) c.turn.new.self.long c.if-not-turn.ensures.turned).0 (omega arith),
)

pub returns-in-None : goal.returns-in-None
returns-in-None g c =
    let k = rw c.marks-in-Quiet.ensures at c.in-None.ensures in
    ran_found _ _ _ (g.met.B.Book.lawful c.args.book.now) _ _ _ _ _ c.loop-reading.invariant.1 (rw c.marks.ensures at (sym c.in-Ok.ensures.1 ∙ c.in-Quiet.is)) k _ (grind arith)

pub returns-in-Some : goal.returns-in-Some
returns-in-Some g c =
    let k = rw c.marks-in-Quiet.ensures at c.in-Some.ensures in
    ran_spent _ _ _ (g.met.B.Book.lawful c.args.book.now) _ _ _ _ _ c.loop-reading.invariant.1 c.in-Some.field-0 (rw c.marks.ensures at (sym c.in-Ok.ensures.1 ∙ c.in-Quiet.is)) k.0 k.1 c.if-trials-allowance.true _

pub returns-then-not-turn : goal.returns-then-not-turn
returns-then-not-turn g c =
    ran_none _ _ _ (g.met.B.Book.lawful c.args.book.now) _ _ _ _ _ c.loop-reading.invariant.1 _ _ (rw c.marks.ensures at (sym c.in-Ok.ensures.1 ∙ c.in-Broken.is)) c.if-not-turn.ensures.turned _
