use Rattle.std.proofs.Common.{◌≡◌, ℕ, ◌+◌, ◌/◌, ◌%◌, List, [], ◌∷◌, ◌++◌, decimal, ap, ◌∙◌, arith}
use Rattle.std.proofs.lemmas.Grind.{common_steps}
use Rattle.std.proofs.lemmas.Fmt.{decimal_digit, decimal_step}
use Rattle.output.proofs.Pieces.{same_text}
use Rattle.output.proofs.put_number.Goals as goal

-- The digit that is written is told equal by `grind`, so that another way to find it needs no other answer.
pub returns-then-number-lt10-clause-text : goal.returns-then-number-lt10-clause-text
returns-then-number-lt10-clause-text c =
    same_text (decimal_digit c.args.number c.if-number-lt10.true ∙ grind (arith, common_steps)) c.put.ensures.text

pub returns-then-number-lt100-clause-text : goal.returns-then-number-lt100-clause-text
returns-then-number-lt100-clause-text c =
    let tens : decimal (c.args.number / 10) ≡ (48 + c.args.number / 10) ∷ [] = decimal_digit (c.args.number / 10) (omega arith) in
    let step : decimal c.args.number ≡ decimal (c.args.number / 10) ++ ((48 + c.args.number % 10) ∷ []) = decimal_step c.args.number (omega arith) (omega arith) in
    same_text (step ∙ ap (λ (front : List ℕ). front ++ ((48 + c.args.number % 10) ∷ [])) tens) c.put-then-number-lt100.ensures.text
