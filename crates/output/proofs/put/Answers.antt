use Rattle.std.proofs.Common.{◌≡◌, ℕ, ◌+◌, ◌∙◌, length, take, sym, ap, arith}
use Rattle.std.proofs.lemmas.List.{take_all}
use Rattle.output.specs.Writing.{laid, beyond}
use Rattle.output.proofs.Pieces.{laid_there, sets_past}
use Rattle.output.proofs.put.Goals as goal

pub returns-in_err-end-clause-text : goal.returns-in_err-end-clause-text
returns-in_err-end-clause-text c = rw c.from_residual.ensures (beyond (omega (arith, c.in_err-end.ensures)))

pub returns-then-end-out-clause-text : goal.returns-then-end-out-clause-text
returns-then-end-out-clause-text c =
    let long : c.in_ok-end.end ≡ c.args.at + length c.args.text.now = omega (arith, c.in_ok-end.ensures) in
    laid c.in_ok-end.end (laid_there c.args.out.now c.args.text.now c.copy_from_slice.new.self c.args.at _ _ (omega arith) (omega arith) (c.copy_from_slice.ensures.after ∙ sym (take_all _ c.args.text.now (omega arith)))) long

-- The length of the text's part that has room is told equal by `omega`, so that another way to reckon it needs no other
-- answer.
pub returns-then-at-out-clause-text : goal.returns-then-at-out-clause-text
returns-then-at-out-clause-text c =
    let long : c.in_ok-end.end ≡ c.args.at + length c.args.text.now = omega (arith, c.in_ok-end.ensures) in
    laid c.in_ok-end.end (laid_there c.args.out.now c.args.text.now c.copy_from_slice-then-at-out.new.self c.args.at _ _ (omega arith) (omega arith) (c.copy_from_slice-then-at-out.ensures.after ∙ ap (λ (k : ℕ). take k c.args.text.now) (omega arith))) long

pub returns-else-at-out-clause-text : goal.returns-else-at-out-clause-text
returns-else-at-out-clause-text c =
    let long : c.in_ok-end.end ≡ c.args.at + length c.args.text.now = omega (arith, c.in_ok-end.ensures) in
    laid c.in_ok-end.end (sym (sets_past c.args.text.now c.args.out.now c.args.at (omega arith))) long
