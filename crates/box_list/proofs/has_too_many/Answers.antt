use Rattle.std.proofs.Common.{◌≡◌, ℕ, ltb, length, sym, ◌∙◌}
use Rattle.std.proofs.lemmas.Bool.{ltb-true}
use Rattle.box_list.specs.Spelling.{box_rows}
use Rattle.box_list.specs.Lists.{row_number}
use Rattle.box_list.proofs.Beginnings.{refused_whatever_follows, tells_many}
use Rattle.box_list.proofs.has_too_many.Goals as goal

pub returns : goal.returns
returns c =
    let text = c.args.text.now in
    let tells : c.is_some.result ≡ ltb 4096 (length (box_rows text)) = c.is_some.ensures ∙ tells_many text (λ (row : ℕ). row ≡ row_number text 4096) c.surplus_row.result c.surplus_row.ensures in
    record { count = tells; lasts = λ e more. refused_whatever_follows text (ltb-true 4096 (length (box_rows text)) (sym tells ∙ e)) more }
