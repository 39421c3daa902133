use Rattle.scan.specs.Scans.{left, ahead}
use Rattle.rule_file.specs.Machine.{mach}
use Rattle.rule_file.proofs.Reading.{Leads}
use Rattle.rule_file.proofs.file.read_through.Given as goal

abbrev pub invariant-loop : goal.invariant-loop
invariant-loop l = Leads l.bytes (mach l.reader) (ahead l.reader.scanner)

abbrev pub decreases-loop : goal.decreases-loop
decreases-loop l = left l.reader.scanner
