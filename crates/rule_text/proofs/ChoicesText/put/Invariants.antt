use Rattle.std.proofs.Common.{take, drop}
use Rattle.std.specs.List.{All}
use Rattle.output.proofs.Pieces.{Onward}
use Rattle.rule_text.specs.Writing.{numerals}
use Rattle.rule_text.specs.Padding.{all_padded}
use Rattle.rule_text.specs.Back.{Small}
use Rattle.rule_text.proofs.ChoicesText.put.Given as goal

abbrev pub invariant-loop-choice : goal.invariant-loop-choice
invariant-loop-choice l =
    Onward l.initial.out l.start (all_padded l.spacing (numerals l.choices)) l.out l.at (all_padded l.spacing (numerals (drop l.choice-index l.choices)))
    × All Small (take l.choice-index l.choices)
