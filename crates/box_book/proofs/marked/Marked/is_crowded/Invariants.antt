use Rattle.std.specs.Str.TwoWay.{Nowhere}
use Rattle.box_book.proofs.Blocks.{Crowds}
use Rattle.box_book.proofs.marked.Marked.is_crowded.Given as goal

abbrev pub invariant-loop-k : goal.invariant-loop-k
invariant-loop-k l = Nowhere (Crowds l.self.boxes.now l.self.marks.now) 0 l.k
