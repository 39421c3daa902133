use Rattle.std.proofs.Common.{◌≡◌, ◌<◌, ◌∙◌, true, length, sym, rules, arith}
use Rattle.book.specs.declared.Mark.TheVariants.{Yes}
use Rattle.box_book.specs.Causes.{box_at}
use Rattle.box_book.specs.Meaning.{mark_at}
use Rattle.box_book.specs.Readings.{clashed, crowded_at}
use Rattle.box_book.specs.Finds.{some_from, none_false}
use Rattle.box_book.proofs.Blocks.{crowd_tested, crowd_told}
use Rattle.box_book.proofs.marked.Marked.is_crowded.Goals as goal

pub returns-then-clashed : goal.returns-then-clashed
returns-then-clashed c =
    let bs = c.args.self.now.boxes.now in
    let ms = c.args.self.now.marks.now in
    let k = c.loop-k.k in
    let low : k < length bs = omega (arith, c.loop-k-test.true, c.args.self.now.fit) in
    let yes : mark_at ms k ≡ Yes = search rules in
    let clash : clashed bs ms k (box_at bs k) ≡ true = sym c.clashed.ensures ∙ c.if-clashed.true in
    sym (some_from (crowded_at bs ms) (length bs) k low (crowd_tested bs ms k (yes, clash)))

pub returns : goal.returns
returns c =
    let bs = c.args.self.now.boxes.now in
    let ms = c.args.self.now.marks.now in
    sym (none_false (crowded_at bs ms) (length bs) (λ k h e. c.loop-k.invariant k (omega arith) (omega (arith, h, c.loop-k-test.false, c.args.self.now.fit)) (crowd_told bs ms k e)))
