use Rattle.printing.specs.Output.{Printed}
use Rattle.printing.specs.Words.{refusal_text}
use Rattle.refusal.specs.declared.Refusal.{Refusal}
use Rattle.rule_book.specs.Meaning.{rules_of, size_of}
use Rattle.rule_file.specs.Faults.{told_file}
use Rattle.setting.specs.Sheets.{refused, sought}
use Rattle.setting.proofs.Within.{printed_within}
use Rattle.std.proofs.Common.{subst}
use Rattle.setting.proofs.set_sheet.Goals as goal

pub returns-in-Ok : goal.returns-in-Ok
returns-in-Ok c = record {
  printed = sought (size_of c.in-Ok.book) (rules_of c.in-Ok.book) c.in-Ok.ensures c.print_search.ensures.searched;
  within = c.print_search.ensures.within;
}

pub returns-in-Err : goal.returns-in-Err
returns-in-Err c =
    let whole : Printed (refusal_text (told_file c.in-Err.fault) c.in-Err.fault.line) c.args.out.now c.print_refusal.new.out c.print_refusal.result =
    subst (λ (f : Refusal). Printed (refusal_text f c.in-Err.fault.line) c.args.out.now c.print_refusal.new.out c.print_refusal.result) c.from.ensures c.print_refusal.ensures in
    record {
      printed = refused c.in-Err.fault c.in-Err.ensures whole;
      within = printed_within (refusal_text (told_file c.in-Err.fault) c.in-Err.fault.line) c.args.out.now c.print_refusal.new.out c.print_refusal.result whole;
    }
