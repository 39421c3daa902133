use Rattle.std.proofs.Common.{length, sym, refl, inl, inr, arith}
use Rattle.std.proofs.lemmas.Bool.{cases_lt}
use Rattle.output.proofs.Pieces.{has_room, no_room, fitted}
use Rattle.output.proofs.write_whole.Goals as goal

pub returns-then-not-has_room-clause-written : goal.returns-then-not-has_room-clause-written
returns-then-not-has_room-clause-written g c =
    let long = no_room c.min.result (omega arith) c.put.ensures.text (sym c.if-not-has_room.ensures) in
    (elim (cases_lt c.args.most (length (g.T.Text.bytes c.args.text.now))) [ inl h ↦ inl h | inr h ↦ inr (omega arith) ], refl)

pub returns-clause-written : goal.returns-clause-written
returns-clause-written g c =
    let short = has_room c.min.result c.put.ensures.text (sym c.if-not-has_room.ensures) in
    let done = fitted (omega arith) (omega arith) c.put-2.ensures.text in
    rw done.1 (omega arith, done.2)
