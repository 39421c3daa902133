use Rattle.std.proofs.Common.{◌≡◌, rules, ap}
use Rattle.rule_file.specs.declared.line.Part.TheVariants.{End}
use Rattle.std.proofs.lemmas.Result.{err_from_is_err_and}
use Rattle.book.specs.declared.size.SheetSize.{SheetSize}
use Rattle.rule_file.specs.declared.file.Tally.{Tally}
use Rattle.rule_file.specs.Machine.{mach}
use Rattle.rule_file.proofs.Ends.{not_end}
use Rattle.rule_file.proofs.Reading.{leads_start, leads_on, leads_end, leads_stop}
use Rattle.rule_file.proofs.file.read_through.Goals as goal

pub loop-init : goal.loop-init
loop-init c = leads_start _ c.new-reader.result c.new-reader.ensures

pub loop-smaller : goal.loop-smaller
loop-smaller c = let h : c.in_ok-next_part.field-0 ≡ End → ⊥ = search rules in c.in_ok-next_part.ensures.nearer (not_end _ h)

pub loop-preserved : goal.loop-preserved
loop-preserved c =
    let h : c.in_ok-next_part.field-0 ≡ End → ⊥ = search rules in
    leads_on _ c.loop.reader c.next_part.new.self c.in_ok-next_part.field-0 c.in_ok-next_part.ensures.moves (not_end _ h) c.loop.invariant

pub returns-in_err-next_part : goal.returns-in_err-next_part
returns-in_err-next_part c =
    let p = err_from_is_err_and c.from_residual.result c.from_residual.ensures.1 in
    rw (p.1, p.2) (leads_stop _ _ _ _ c.in_err-next_part.ensures.moves c.loop.invariant)

pub returns : goal.returns
returns c =
    let e : c.in_ok-next_part.field-0 ≡ End = search rules in
    let k = leads_end _ c.loop.reader c.next_part.new.self c.in_ok-next_part.field-0 c.in_ok-next_part.ensures.moves e c.loop.invariant in
    (k.0, mach c.next_part.new.self, k.1, ap (λ (x : SheetSize). x.value) c.size.ensures, ap (λ (x : Tally). x.rules) c.tally.ensures)
