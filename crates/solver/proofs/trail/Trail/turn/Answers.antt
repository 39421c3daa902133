use Rattle.std.proofs.Common.{◌≡◌, ◌∷◌, List, set, ap, ◌∙◌, set-set}
use Rattle.book.specs.declared.Mark.{Mark}
use Rattle.book.specs.declared.Mark.TheVariants.{Open, No}
use Rattle.solver.specs.declared.trail.Step.{Step}
use Rattle.solver.specs.Steps.{place_of, once_turned, Held}
use Rattle.solver.specs.Trails.{steps_of}
use Rattle.solver.proofs.Trails.{room_again, unwind_here}
use Rattle.solver.proofs.trail.Trail.turn.Goals as goal

pub push-requires : goal.push-requires
push-requires c =
    let s : Step = c.in-Some.step in
    let h : Held (s ∷ steps_of c.pop.new.self) c.loop-step.self.marks.now = rw c.in-Some.ensures.popped.0 at c.loop-step.invariant.1 in
    rw c.forced.ensures (room_again s c.pop.new.self.depth c.pop.new.self.work.now c.loop-step.self.marks.now c.pop.new.self.marks.now h c.in-Some.ensures.popped.1)

pub returns-then-step-clause-turned : goal.returns-then-step-clause-turned
returns-then-step-clause-turned c =
    let s : Step = c.in-Some.step in
    let ms : List Mark = c.loop-step.self.marks.now in
    let m : c.push.new.self.marks.now ≡ set ms (place_of s) No =
    c.push.ensures.marked ∙ ap (λ (t : Step). set c.pop.new.self.marks.now (place_of t) No) c.forced.ensures ∙ ap (λ (xs : List Mark). set xs (place_of s) No) c.in-Some.ensures.popped.1 ∙ set-set ms (place_of s) Open No in
    let k : steps_of c.push.new.self ≡ once_turned s ∷ steps_of c.pop.new.self = c.push.ensures.noted ∙ ap (λ (t : Step). t ∷ steps_of c.pop.new.self) c.forced.ensures in
    c.loop-step.invariant.2 _ _ _ (rw c.in-Some.ensures.popped.0 (unwind_here s (steps_of c.pop.new.self) (steps_of c.push.new.self) ms c.push.new.self.marks.now c.if-step.true m k))
