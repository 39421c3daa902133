use Rattle.std.proofs.Common.{◌+◌, sym, ap, ◌∙◌, length-append, arith}
use Rattle.std.proofs.lemmas.Grind.{common_steps}
use Rattle.book.specs.declared.Mark.{Mark}
use Rattle.standing.specs.Steps.{pin_says}
use Rattle.standing.proofs.Forced.{read_broken, read_more, read_end, loud_or}
use Rattle.standing.proofs.pins.Pins.reading.Goals as goal

-- The pin that is asked is told equal to the one that the loop yields by `grind`, so that another way to find it needs no
-- other answers.
pub returns-in-Broken : goal.returns-in-Broken
returns-in-Broken c =
    sym (read_broken c.args.self.now c.args.marks.now c.into_iter-place-iterator.result (cc) (cc) (cc) c.loop-place.yielded c.loop-place.place-iterator c.next.new.self c.loop-place.yielded_by _ c.next.ensures.steps c.loop-place.forced _ c.in-Some.is c.pin_says.result (c.pin_says.ensures ∙ ap (λ (z : Mark). pin_says (c.in-Some.place + 1) z c.in-Some.mark.now) (grind (arith, common_steps))) c.in-Broken.is) ∙ c.loop-place.invariant

pub loop-place-preserved : goal.loop-place-preserved
loop-place-preserved c =
    rw (length-append c.loop-place.yielded _, c.unwrap_or-forced.ensures, c.loud.ensures, loud_or) (sym (read_more c.args.self.now c.args.marks.now c.into_iter-place-iterator.result (cc) (cc) (cc) c.loop-place.yielded c.loop-place.place-iterator c.next.new.self c.loop-place.yielded_by _ c.next.ensures.steps c.loop-place.forced _ c.in-Some.is c.pin_says.result (c.pin_says.ensures ∙ ap (λ (z : Mark). pin_says (c.in-Some.place + 1) z c.in-Some.mark.now) (grind (arith, common_steps))) c.in_default.not-Broken) ∙ c.loop-place.invariant)

pub returns : goal.returns
returns c =
    sym (read_end c.args.self.now c.args.marks.now c.into_iter-place-iterator.result (cc) (cc) (cc) c.loop-place.yielded c.loop-place.place-iterator c.next.new.self c.loop-place.yielded_by _ c.next.ensures.steps c.loop-place.forced c.in-None.is) ∙ c.loop-place.invariant
