use Rattle.std.proofs.Common.{length, arith}
use Rattle.box_book.specs.Finds.{first_within}
use Rattle.box_book.specs.Readings.{blocked_at, alone_at}
use Rattle.box_book.proofs.marked.Marked.reading.Goals as goal

pub overflow_cast-result : goal.overflow_cast-result
overflow_cast-result c = let list = c.args.self.now in omega (arith, list.sound.few, first_within (blocked_at list.boxes.now list.marks.now) (length list.boxes.now) c.in-Some.place c.in-Some.ensures)

pub overflow_add-result : goal.overflow_add-result
overflow_add-result c = let list = c.args.self.now in omega (arith, list.sound.few, first_within (blocked_at list.boxes.now list.marks.now) (length list.boxes.now) c.in-Some.place c.in-Some.ensures)

pub overflow_cast-result-in-Some-first_alone : goal.overflow_cast-result-in-Some-first_alone
overflow_cast-result-in-Some-first_alone c = let list = c.args.self.now in omega (arith, list.sound.few, first_within (alone_at list.boxes.now list.marks.now) (length list.boxes.now) c.in-Some-first_alone.place c.in-Some-first_alone.ensures)

pub overflow_add-result-in-Some-first_alone : goal.overflow_add-result-in-Some-first_alone
overflow_add-result-in-Some-first_alone c = let list = c.args.self.now in omega (arith, list.sound.few, first_within (alone_at list.boxes.now list.marks.now) (length list.boxes.now) c.in-Some-first_alone.place c.in-Some-first_alone.ensures)
