use Rattle.std.proofs.Common.{◌≡◌, ℕ, ◌<◌, ◌-◌, false, leb, List, length, drop, sym, ap, ◌∙◌, arith, rules, length-drop}
use Rattle.std.proofs.lemmas.Bool.{lt-leb}
use Rattle.box_text.specs.Rows.{cells, cells_ahead}
use Rattle.box_text.proofs.Cuts.{some_left}
use Rattle.box_text.proofs.reading.row_of.Goals as goal

one_less : (xs ys : List (List ℕ)) → ys ≡ drop 1 xs → length ys ≡ length xs - 1
one_less xs ys on = ap length on ∙ length-drop 1 xs

-- a cell is left after five
surplus :
    (cs a1 a2 a3 a4 a5 : List (List ℕ)) → a1 ≡ drop 1 cs → a2 ≡ drop 1 a1 → a3 ≡ drop 1 a2 → a4 ≡ drop 1 a3 → a5 ≡ drop 1 a4 → 0 < length a5 → leb (length cs) 5 ≡ false
surplus cs a1 a2 a3 a4 a5 d1 d2 d3 d4 d5 more =
    lt-leb (length cs) 5 (omega (arith, more, one_less cs a1 d1, one_less a1 a2 d2, one_less a2 a3 d3, one_less a3 a4 d4, one_less a4 a5 d5))

pub returns-then-is_some : goal.returns-then-is_some
returns-then-is_some c =
    let more : leb (length (cells c.args.row.now)) 5 ≡ false =
    surplus (cells c.args.row.now) (cells_ahead c.next_number.new.self) (cells_ahead c.next_number-2.new.self) (cells_ahead c.next_number-3.new.self) (cells_ahead c.next_number-4.new.self) (cells_ahead c.next_number-5.new.self)
    c.next_number.ensures.on c.next_number-2.ensures.on c.next_number-3.ensures.on c.next_number-4.ensures.on c.next_number-5.ensures.on
    (some_left c.next_number-5.new.self.rest (sym c.if-is_some.ensures))
    in
    search rules
