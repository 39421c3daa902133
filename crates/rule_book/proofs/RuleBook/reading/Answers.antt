use Rattle.std.proofs.Common.{rules, ◌≡◌, None, Some, Option, ◌∙◌}
use Rattle.std.specs.Prelude.{MatchOption}
use Rattle.book.specs.declared.Reading.{Reading}
use Rattle.book.specs.declared.Reading.TheVariants.{Quiet}
use Rattle.rules.specs.declared.RuleRow.{RuleRow}
use Rattle.rule_book.specs.declared.Pressure.{Pressure}
use Rattle.rule_book.specs.Readings.{rules_reading}
use Rattle.rule_book.specs.Meaning.{rules_of}
use Rattle.rule_book.specs.Weighing.{pressure_reading, reading_of}
use Rattle.rule_book.proofs.Chains.{loudest}
use Rattle.rule_book.proofs.RuleBook.reading.Goals as goal

abbrev no_row : RuleRow
no_row = record {
  body = record { entries = record { start = 0; end = 0 }; counts = record { start = 0; end = 0 } };
  head = record { entries = record { start = 0; end = 0 }; counts = record { start = 0; end = 0 } };
}

read : (p : Option Pressure) (r : Reading) → MatchOption p (r ≡ Quiet) (λ q. r ≡ pressure_reading q) → r ≡ reading_of p
read None r h = h
read (Some p) r h = h

pub returns : goal.returns
returns c =
    let d = c.find_map-pressed.ensures.runs in
    let h : reading_of c.find_map-pressed.result ≡ rules_reading c.args.marks.now (rules_of c.args.self.now) =
    loudest c.args.marks.now c.args.self.now.counts.now c.args.self.now.entries.now no_row _ _ (λ x v q k. search rules) d.0 c.args.self.now.rules.now (search rules) c.find_map-pressed.result d.2 in
    read c.find_map-pressed.result c.map_or.result (search rules) ∙ h
