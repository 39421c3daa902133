use Rattle.std.proofs.Common.{◌≡◌, ◌+◌, length, drop}
use Rattle.standing.specs.Readings.{pins_reading}
use Rattle.standing.proofs.Forced.{read_on}
use Rattle.standing.proofs.pins.Pins.reading.Given as goal

-- what is left of the pins gives the reading
abbrev pub invariant-loop-place : goal.invariant-loop-place
invariant-loop-place l = read_on l.forced (length l.yielded + 1) (drop (length l.yielded) l.self) (drop (length l.yielded) l.marks) ≡ pins_reading l.self l.marks
