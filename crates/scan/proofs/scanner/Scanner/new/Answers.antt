use Rattle.std.proofs.Common.{refl}
use Rattle.scan.proofs.Grammar.{every_file_reads, files_read_once}
use Rattle.scan.proofs.scanner.Scanner.new.Goals as goal

pub returns : goal.returns
returns c = record { fresh = (refl, (refl, refl)); whole = refl; reads = every_file_reads; once = files_read_once }
