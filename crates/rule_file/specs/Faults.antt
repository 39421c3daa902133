-- The causes of a rule file's refusals by number, and a fault as it is told.
use Rattle.std.specs.Prelude.{ℕ, ◌+◌, List, count_by, take, ◌==◌}
use Rattle.refusal.specs.Causes.{told as told_of}
use Rattle.refusal.specs.declared.Layer.TheVariants.{File as FileLayer, Scan as ScanLayer, Line as LineLayer}
use Rattle.refusal.specs.declared.Refusal.{Refusal}
use Rattle.scan.specs.Causes.{scan_number}
use Rattle.rule_file.specs.declared.fault.LineCause.{LineCause}
use Rattle.rule_file.specs.declared.fault.LineCause.TheVariants.{Form, Choice, Repeated}
use Rattle.rule_file.specs.declared.fault.FileCause.{FileCause}
use Rattle.rule_file.specs.declared.fault.FileCause.TheVariants.{Storage, Bytes, Limit, Rules, Writing}
use Rattle.rule_file.specs.declared.fault.LineFault.{LineFault}
use Rattle.rule_file.specs.declared.fault.LineFault.TheVariants.{Scan, Line}
use Rattle.rule_file.specs.declared.fault.Fault.{Fault}
use Rattle.rule_file.specs.declared.fault.Fault.TheVariants.{Line as InLine, File}
use Rattle.rule_file.specs.declared.fault.FileFault.{FileFault}

abbrev pub line_number : LineCause → ℕ
line_number Form = 13
line_number Choice = 14
line_number Repeated = 15

abbrev pub file_number : FileCause → ℕ
file_number Storage = 9
file_number Bytes = 10
file_number Limit = 16
file_number Rules = 17
file_number Writing = 19

-- a fault of these layers, by its cause and place
abbrev pub line_at : LineCause → ℕ → LineFault
line_at c i = Line (record { cause = c; place = i })

abbrev pub file_at : FileCause → ℕ → Fault
file_at c i = File (record { cause = c; place = i })

abbrev pub place_in_line : LineFault → ℕ
place_in_line (Scan f) = f.place
place_in_line (Line f) = f.place

abbrev pub place_of : Fault → ℕ
place_of (InLine f) = place_in_line f
place_of (File f) = f.place

abbrev pub told_line : LineFault → Refusal
told_line (Scan f) = told_of scan_number ScanLayer f
told_line (Line f) = told_of line_number LineLayer f

abbrev pub told : Fault → Refusal
told (InLine f) = told_line f
told (File f) = told_of file_number FileLayer f

abbrev pub told_file : FileFault → Refusal
told_file f = told f.fault

-- the line of a place: the line feeds before it, plus 1
abbrev pub line_of : List ℕ → ℕ → ℕ
line_of bs p = count_by (λ b. b == 10) (take p bs) + 1

-- a fault with its line
abbrev pub located : List ℕ → Fault → FileFault
located bs f = record { fault = f; line = line_of bs (place_of f) }
