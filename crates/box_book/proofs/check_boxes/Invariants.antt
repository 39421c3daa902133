use Rattle.std.proofs.Common.{◌≡◌, ℕ, ◌<◌}
use Rattle.box_book.specs.Causes.{Clean, box_at, name_before}
use Rattle.box_book.proofs.check_boxes.Given as goal

abbrev pub invariant-loop-place : goal.invariant-loop-place
invariant-loop-place l = (l.before ≡ name_before l.boxes l.place) × ((k : ℕ) → k < l.place → Clean (box_at l.boxes k) (name_before l.boxes k))
