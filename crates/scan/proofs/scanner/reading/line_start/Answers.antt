use Rattle.std.proofs.Common.{◌≡◌, ◌≢◌, Some, sym, ap, ◌∙◌}
use Rattle.std.proofs.lemmas.List.{take_rest}
use Rattle.scan.specs.declared.ByteKind.TheVariants.{Comment}
use Rattle.scan.specs.Bytes.{kind}
use Rattle.scan.proofs.OfKind.{of_kind}
use Rattle.scan.proofs.Steps.{line_found, cut_in_comment, one_past, end_found}
use Rattle.scan.proofs.scanner.reading.line_start.Goals as goal

pub returns-in_default-kind_of : goal.returns-in_default-kind_of
returns-in_default-kind_of c =
    let b = c.in-Some.first.now in
    let n : b ≢ 99 = λ e. c.in_default-kind_of.not-Comment (c.kind_of.ensures ∙ ap kind e) in
    line_found _ _ b c.loop-first.invariant (sym c.in-Some.ensures.value) n

pub returns-in_default-first_feed : goal.returns-in_default-first_feed
returns-in_default-first_feed c =
    let e : c.in-Some.first.now ≡ 99 = of_kind _ Comment (sym c.in-Comment.ensures) in
    cut_in_comment _ _ c.loop-first.invariant (sym c.in-Some.ensures.value ∙ ap (λ b. Some b) e) (sym c.in_default-first_feed.ensures)

pub loop-first-preserved : goal.loop-first-preserved
loop-first-preserved c =
    let e : c.in-Some.first.now ≡ 99 = of_kind _ Comment (sym c.in-Comment.ensures) in
    rw take_rest (one_past _ _ c.in-Some-first_feed.feed c.loop-first.invariant (sym c.in-Some.ensures.value ∙ ap (λ b. Some b) e) (sym c.in-Some-first_feed.ensures))

pub returns : goal.returns
returns c = end_found _ _ c.loop-first.invariant (sym c.in_default.ensures.value)
