use Rattle.std.proofs.Common.{ℕ, refl, subst, arith, below_more}
use Rattle.std.proofs.lemmas.Bool.{false≢true}
use Rattle.box_book.specs.Causes.{Clean, box_at}
use Rattle.box_book.proofs.Checks.{CleanAt, found, sound_none, sound_by, before_more}
use Rattle.box_book.proofs.check_boxes.Goals as goal

pub returns-in-Some : goal.returns-in-Some
returns-in-Some c =
    let bs = c.args.boxes.now in
    let t = found bs c.in-Some.cause c.loop-place.place c.loop-place.before c.if-boxes-gt-BOX_LIMIT.false c.loop-place-test.true c.loop-place.invariant.0 c.in-Some.ensures c.loop-place.invariant.1 in
    record { told = t; sound = ((λ e. absurd (false≢true e)), (λ s. absurd (sound_none bs s c.in-Some.cause c.loop-place.place t.0))) }

pub loop-place-preserved : goal.loop-place-preserved
loop-place-preserved c =
    let bs = c.args.boxes.now in
    let here : CleanAt bs c.loop-place.place = subst (λ (m : ℕ). Clean (box_at bs c.loop-place.place) m) c.loop-place.invariant.0 c.in_default.ensures in
    (before_more bs c.loop-place.place, below_more (CleanAt bs) c.loop-place.place c.loop-place.invariant.1 here)

pub returns : goal.returns
returns c =
    let bs = c.args.boxes.now in
    let s = sound_by bs c.if-boxes-gt-BOX_LIMIT.false (λ k h. c.loop-place.invariant.1 k (omega arith)) in
    record { told = sound_none bs s; sound = ((λ e. s), (λ x. refl)) }
