use Rattle.std.proofs.Common.{◌≡◌, ℕ, ◌-◌, List, length, take, sym, ap, ◌∙◌, subst, arith}
use Rattle.box_book.specs.declared.NameBox.{NameBox}
use Rattle.box_book.specs.Causes.{Sound}
use Rattle.box_book.specs.Meaning.{Allowed}
use Rattle.box_book.specs.Readings.{boxes_reading}
use Rattle.box_list.specs.Lists.{told_list}
use Rattle.printing.specs.declared.Position.TheVariants.{Row}
use Rattle.printing.specs.Output.{Printed}
use Rattle.printing.specs.Words.{refusal_text_at}
use Rattle.refusal.specs.declared.Refusal.{Refusal}
use Rattle.setting.specs.Boxes.{refused, sought}
use Rattle.setting.specs.Sheets.{SearchPrinted}
use Rattle.setting.proofs.Within.{printed_within}
use Rattle.setting.proofs.set_boxes.Goals as goal

pub returns-in-Ok : goal.returns-in-Ok
returns-in-Ok c =
    let n : ℕ = c.in-Ok.n in
    let list : List NameBox = c.read_boxes.new.boxes in
    let listed = c.in-Ok.ensures.read.1 in
    let zero : n - 0 ≡ n = omega arith in
    let front : take (n - 0) list ≡ take n list = ap (λ (k : ℕ). take k list) zero in
    let same : c.of.result.boxes.now ≡ take n list = c.of.ensures.sound (subst Sound (sym front) listed.sound) ∙ front in
    let printed = λ (bs : List NameBox). SearchPrinted (length bs) (Allowed bs) (boxes_reading bs) c.args.allowance c.args.out.now c.print_search.new.out c.print_search.result in
    record {
      printed = sought (take n list) listed (subst printed same c.print_search.ensures.searched);
      within = c.print_search.ensures.within;
    }

pub returns-in-Err : goal.returns-in-Err
returns-in-Err c =
    let whole : Printed (refusal_text_at (told_list c.in-Err.fault) (Row c.in-Err.fault.row)) c.args.out.now c.print_refusal_at.new.out c.print_refusal_at.result =
    subst (λ (f : Refusal). Printed (refusal_text_at f (Row c.in-Err.fault.row)) c.args.out.now c.print_refusal_at.new.out c.print_refusal_at.result) c.from.ensures c.print_refusal_at.ensures in
    record {
      printed = refused c.in-Err.fault c.in-Err.ensures.read.0 whole;
      within = printed_within (refusal_text_at (told_list c.in-Err.fault) (Row c.in-Err.fault.row)) c.args.out.now c.print_refusal_at.new.out c.print_refusal_at.result whole;
    }
