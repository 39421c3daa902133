use Rattle.std.specs.Str.TwoWay.{Nowhere}
use Rattle.box_book.specs.Runs.{Clashes}
use Rattle.box_book.proofs.marked.Marked.first_clashing.Given as goal

abbrev pub invariant-loop-k : goal.invariant-loop-k
invariant-loop-k l = Nowhere (Clashes l.self.boxes.now l.self.marks.now l.mark l.b) 0 l.k
