use Rattle.std.proofs.Common.{length}
use Rattle.std.specs.Str.TwoWay.{IsFirst}
use Rattle.box_book.proofs.Blocks.{Blocked}
use Rattle.box_book.proofs.marked.Marked.first_blocked.Given as goal

abbrev pub invariant-loop-k : goal.invariant-loop-k
invariant-loop-k l = IsFirst (Blocked l.self.boxes.now l.self.marks.now l.k) 0 (length l.self.boxes.now) l.first
