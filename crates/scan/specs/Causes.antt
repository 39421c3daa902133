-- The numbers by which the table of refusals knows the causes of layer scan.
use Rattle.std.specs.Prelude.{ℕ}
use Rattle.scan.specs.declared.ScanCause.{ScanCause}
use Rattle.scan.specs.declared.ScanCause.TheVariants.{UnknownByte, NumberTooLarge}

abbrev pub scan_number : ScanCause → ℕ
scan_number UnknownByte = 11
scan_number NumberTooLarge = 12
