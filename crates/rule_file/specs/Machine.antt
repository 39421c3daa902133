-- A machine that takes the words of a file one after another: what the reader of files does, apart from its code.
use Rattle.std.specs.Prelude.{◌≡◌, ℕ, ◌≤◌, Bool, false, cond, List, [], ◌∷◌, length, Some, None, Ok, Err, Option, Result, ◌==◌, ◌≢◌, nat_lt}
use Rattle.scan.specs.declared.ScanCause.{ScanCause}
use Rattle.scan.specs.declared.ScanCause.TheVariants.{UnknownByte, NumberTooLarge}
use Rattle.scan.specs.declared.Token.{Token}
use Rattle.scan.specs.declared.Token.TheVariants as tok
use Rattle.scan.specs.Bytes.{file_words}
use Rattle.scan.specs.Scans.{ahead}
use Rattle.scan.specs.Words.{Word, line, header, stray, number, opening, closing, comma, feed, unknown, end, cut, Placed}
use Rattle.rule_file.specs.declared.fault.Fault.{Fault}
use Rattle.rule_file.specs.declared.fault.Fault.TheVariants.{Line as InLine}
use Rattle.rule_file.specs.declared.fault.FileFault.{FileFault}
use Rattle.rule_file.specs.declared.file.Extent.{Extent}
use Rattle.rule_file.specs.declared.fault.FileCause.{FileCause}
use Rattle.rule_file.specs.declared.fault.FileCause.TheVariants.{Rules as RulesCause}
use Rattle.rule_file.specs.declared.fault.LineCause.{LineCause}
use Rattle.rule_file.specs.declared.fault.LineCause.TheVariants.{Form}
use Rattle.rule_file.specs.declared.fault.LineFault.TheVariants.{Scan}
use Rattle.rule_file.specs.declared.file.FileReader.{FileReader}
use Rattle.rule_file.specs.declared.file.Tally.{Tally}
use Rattle.rule_file.specs.declared.line.Half.TheVariants.{Body}
use Rattle.rule_file.specs.declared.line.Part.{Part}
use Rattle.rule_file.specs.declared.line.Part.TheVariants as part
use Rattle.rule_file.specs.declared.line.State.{State}
use Rattle.rule_file.specs.declared.line.State.TheVariants as state
use Rattle.rule_file.specs.Faults.{line_at, file_at, place_of}
use Rattle.rule_file.specs.Form.{words_only}
use Rattle.rule_file.specs.Reader.{Taken, plays, line_fault, size_after, none_seen, seen_after, is_end, file_fault, counted}

-- what the machine holds between two words
pub record Mach : Type 0 where
  pub state : State
  pub size : ℕ
  pub seen : List Bool
  pub tally : Tally

abbrev pub mach : FileReader → Mach
mach r = record { state = r.line.state; size = r.line.size.value; seen = r.line.seen; tally = r.tally }

abbrev pub start_mach : Mach
start_mach = record { state = state.Start; size = 0; seen = none_seen; tally = record { declared = 0; rules = 0; counts = 0; entries = 0 } }

-- the token of a word, or why it has none
abbrev pub scanned : Word → Result Token ScanCause
scanned line = Ok tok.Line
scanned header = Ok tok.Header
scanned stray = Ok tok.Stray
scanned (number v) = cond (nat_lt 65535 v) (Err NumberTooLarge) (Ok (tok.Number v))
scanned opening = Ok tok.Open
scanned closing = Ok tok.Close
scanned comma = Ok tok.Comma
scanned feed = Ok tok.Feed
scanned unknown = Err UnknownByte
scanned end = Ok tok.End
scanned cut = Ok tok.Cut

-- A word is taken as a part: its token is what the form has there, its choice is right, and it is not one too many.
pub record Takes (m : Mach) (w : Word) (p : Part) (m' : Mach) : Type 0 where
  pub token : Token
  pub scans : scanned w ≡ Ok token
  pub played : plays m.state token ≡ Some (p, m'.state)
  pub right : line_fault m.size m.seen p ≡ None
  pub room : file_fault m.tally p ≡ None
  pub size : m'.size ≡ size_after m.size p
  pub seen : m'.seen ≡ seen_after m.seen p
  pub tally : m'.tally ≡ counted m.tally p

-- The words are taken one after another as these parts, of which only the last is the end.
pub data Passes : Mach → List Word → List Part → Mach → Type 0 where
  ends : {m m' : Mach} {w : Word} → Takes m w part.End m' → Passes m (w ∷ []) (part.End ∷ []) m'
  goes_on :
      {m m' m'' : Mach} {w : Word} {p : Part} {ws : List Word} {ps : List Part} → Takes m w p m' → is_end p ≡ false → Passes m' ws ps m'' →
      Passes m (w ∷ ws) (p ∷ ps) m''

-- the fault of a word by itself, at its place, if it is not taken
abbrev pub by_limits : ℕ → Option LineCause → Option FileCause → Option Fault
by_limits i (Some c) o = Some (InLine (line_at c i))
by_limits i None (Some c) = Some (file_at c i)
by_limits i None None = None

abbrev pub by_form : Mach → ℕ → Taken → Option Fault
by_form m i None = Some (InLine (line_at Form i))
by_form m i (Some x) = by_limits i (line_fault m.size m.seen x.0) (file_fault m.tally x.0)

abbrev pub by_scan : Mach → ℕ → Result Token ScanCause → Option Fault
by_scan m i (Err c) = Some (InLine (Scan (record { cause = c; place = i })))
by_scan m i (Ok t) = by_form m i (plays m.state t)

abbrev pub word_fault : Mach → ℕ → Word → Option Fault
word_fault m i w = by_scan m i (scanned w)

-- A line that is one rule too many has the fault of its first word, if that stands at the line's own place.
abbrev pub next_fault : Mach → List Placed → Option Fault
next_fault m [] = None
next_fault m (x ∷ ws) = word_fault m x.0 x.1

abbrev pub or_surplus : ℕ → Option Fault → Fault
or_surplus i None = file_at RulesCause i
or_surplus i (Some f) = cond (place_of f == i) f (file_at RulesCause i)

abbrev pub surplus_fault : Mach → ℕ → List Placed → Fault
surplus_fault m i ws = or_surplus i (next_fault m ws)

-- the machine within a rule's line that it did not count
abbrev pub in_rule : Mach → Mach
in_rule m = record { state = state.Items Body; size = m.size; seen = m.seen; tally = m.tally }

-- The first word is not taken, and this is the fault that is told.
pub data Stops (m : Mach) : List Placed → Fault → Type 0 where
  at_word :
      {i : ℕ} {w : Word} {ws : List Placed} {f : Fault} → word_fault m i w ≡ Some f → (w ≡ line → f ≢ file_at RulesCause i) →
      Stops m ((i, w) ∷ ws) f
  at_surplus :
      {i : ℕ} {ws : List Placed} {f : Fault} → word_fault m i line ≡ Some (file_at RulesCause i) → f ≡ surplus_fault (in_rule m) i ws →
      Stops m ((i, line) ∷ ws) f

-- Some words are taken, and the next one is not.
pub data Refuses : Mach → List Placed → Fault → Type 0 where
  stops : {m : Mach} {ws : List Placed} {f : Fault} → Stops m ws f → Refuses m ws f
  later :
      {m m' : Mach} {i : ℕ} {w : Word} {p : Part} {ws : List Placed} {f : Fault} → Takes m w p m' → is_end p ≡ false → Refuses m' ws f →
      Refuses m ((i, w) ∷ ws) f

-- What the reader of files does with the words ahead of it: it takes the first one and, unless that is the end, has the
-- others ahead of it then, or it tells the fault of the first one.
pub record MovedOn (r : FileReader) (p : Part) (r' : FileReader) : Type 0 where
  pub place : ℕ
  pub word : Word
  pub rest : List Placed
  pub was : ahead r.scanner ≡ (place, word) ∷ rest
  pub takes : Takes (mach r) word p (mach r')
  pub left : rest ≡ cond (is_end p) [] (ahead r'.scanner)

abbrev pub Moves : FileReader → FileReader → Result Part Fault → Type 0
Moves r r' (Ok p) = MovedOn r p r'
Moves r r' (Err f) = Stops (mach r) (ahead r.scanner) f

-- What the reading of a whole file answers: its words are taken to the end, or some word is not.
abbrev pub ReadThrough : List ℕ → Result Extent Fault → Type 0
ReadThrough bs (Ok x) =
    (ps : List Part) × (m : Mach) × Passes start_mach (words_only (file_words bs)) ps m × (x.size.value ≡ m.size) × (x.rules ≡ m.tally.rules)
ReadThrough bs (Err f) = Refuses start_mach (file_words bs) f

-- The same of its check, which says first that there are too many bytes.
abbrev pub Passed : List ℕ → Result Extent FileFault → Type 0
Passed bs (Ok x) = (length bs ≤ 65535) × ReadThrough bs (Ok x)
Passed bs (Err f) = length bs ≤ 65535 → ReadThrough bs (Err f.fault)
