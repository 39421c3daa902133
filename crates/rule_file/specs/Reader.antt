-- What the readers of lines and files do with one token.
use Rattle.std.specs.Prelude.{◌≡◌, ℕ, ◌+◌, ◌<◌, ◌≤◌, Bool, true, false, cond, List, ◌∷◌, replicate, Some, None, Ok, Err, Option, Result, ◌==◌, nat_le, nat_lt, slice_index_or, slice_set}
use Rattle.scan.specs.declared.Token.{Token}
use Rattle.scan.specs.declared.Token.TheVariants as token
use Rattle.scan.specs.declared.scanner.Scanner.{Scanner}
use Rattle.scan.specs.Scans.{left, ahead, TokenFirst, Refused}
use Rattle.scan.specs.Words.{Word, Placed}
use Rattle.rule_file.specs.declared.fault.Fault.{Fault}
use Rattle.rule_file.specs.declared.fault.FileCause.{FileCause}
use Rattle.rule_file.specs.declared.fault.FileCause.TheVariants.{Limit, Rules as RulesCause}
use Rattle.rule_file.specs.declared.fault.LineCause.{LineCause}
use Rattle.rule_file.specs.declared.fault.LineCause.TheVariants.{Form, Choice as ChoiceCause, Repeated}
use Rattle.rule_file.specs.declared.fault.LineFault.{LineFault}
use Rattle.rule_file.specs.declared.fault.LineFault.TheVariants.{Scan, Line}
use Rattle.rule_file.specs.declared.file.FileReader.{FileReader}
use Rattle.rule_file.specs.declared.file.Tally.{Tally}
use Rattle.rule_file.specs.declared.line.Half.TheVariants.{Body, Head}
use Rattle.rule_file.specs.declared.line.LineReader.{LineReader}
use Rattle.rule_file.specs.declared.line.Part.{Part}
use Rattle.rule_file.specs.declared.line.Part.TheVariants as part
use Rattle.rule_file.specs.declared.line.State.{State}
use Rattle.rule_file.specs.declared.line.State.TheVariants as state

abbrev pub Taken : Type 0
Taken = Option (Part × State)

-- a row of the table below: what a state makes of each kind of token
abbrev pub row : (line end : Taken) → (ℕ → Taken) → (brace shut comma header stray feed cut : Taken) → Token → Taken
row l e n b s c h y f u token.Line = l
row l e n b s c h y f u token.End = e
row l e n b s c h y f u (token.Number v) = n v
row l e n b s c h y f u token.Open = b
row l e n b s c h y f u token.Close = s
row l e n b s c h y f u token.Comma = c
row l e n b s c h y f u token.Header = h
row l e n b s c h y f u token.Stray = y
row l e n b s c h y f u token.Feed = f
row l e n b s c h y f u token.Cut = u

-- states that take nothing, only a number, only one thing
abbrev pub nothing : Token → Taken
nothing = row None None (λ _. None) None None None None None None None

abbrev pub only_number : (ℕ → Part) → State → Token → Taken
only_number p s = row None None (λ v. Some (p v, s)) None None None None None None None

-- What a token is there for, by what the reader has before it, and what it has before it then.
abbrev pub plays : State → Token → Taken
plays state.Start = row (Some (part.HeaderLine, state.Header)) None (λ _. None) None None None None None None None
plays state.Header = row None None (λ _. None) None None None (Some (part.Header, state.Size)) None None None
plays state.Size = only_number part.Size state.Rules
plays state.Rules = only_number part.Rules state.HeaderEnd
plays state.HeaderEnd = row None None (λ _. None) None None None None None (Some (part.HeaderEnd, state.Between)) None
plays state.Between = row (Some (part.RuleLine, state.Items Body)) (Some (part.End, state.Over)) (λ _. None) None None None None None None None
plays (state.Items Body) =
    row None None (λ v. Some (part.Choice v, state.Items Body)) (Some (part.CountOpen, state.Lower Body)) None (Some (part.Comma, state.Items Head)) None None None None
plays (state.Items Head) =
    row None None (λ v. Some (part.Choice v, state.Items Head)) (Some (part.CountOpen, state.Lower Head)) None None None None (Some (part.RuleEnd, state.Between)) None
plays (state.Lower h) = only_number part.Lower (state.Upper h)
plays (state.Upper h) = only_number part.Upper (state.Members h)
plays (state.Members h) = row None None (λ v. Some (part.Member v, state.Members h)) None (Some (part.CountClose, state.Items h)) None None None None None
plays state.Over = nothing

-- a choice that the sheet has
abbrev pub no_choice : ℕ → ℕ → Bool
no_choice n v = cond (v == 0) true (nat_lt n v)

-- what is wrong with the choice of a part, by n and the choices that the count has had
abbrev pub line_fault : ℕ → List Bool → Part → Option LineCause
line_fault n seen part.HeaderLine = None
line_fault n seen part.Header = None
line_fault n seen (part.Size v) = None
line_fault n seen (part.Rules v) = None
line_fault n seen part.HeaderEnd = None
line_fault n seen part.RuleLine = None
line_fault n seen (part.Choice v) = cond (no_choice n v) (Some ChoiceCause) None
line_fault n seen part.CountOpen = None
line_fault n seen (part.Lower v) = None
line_fault n seen (part.Upper v) = None
line_fault n seen (part.Member v) = cond (no_choice n v) (Some ChoiceCause) (cond (slice_index_or seen v false) (Some Repeated) None)
line_fault n seen part.CountClose = None
line_fault n seen part.Comma = None
line_fault n seen part.RuleEnd = None
line_fault n seen part.End = None

-- the size, once the header's n is read; one above 4,096 is not kept
abbrev pub size_after : ℕ → Part → ℕ
size_after n part.HeaderLine = n
size_after n part.Header = n
size_after n (part.Size v) = cond (nat_lt 4096 v) n v
size_after n (part.Rules v) = n
size_after n part.HeaderEnd = n
size_after n part.RuleLine = n
size_after n (part.Choice v) = n
size_after n part.CountOpen = n
size_after n (part.Lower v) = n
size_after n (part.Upper v) = n
size_after n (part.Member v) = n
size_after n part.CountClose = n
size_after n part.Comma = n
size_after n part.RuleEnd = n
size_after n part.End = n

-- no choice of a count was had yet
unfoldable pub none_seen : List Bool
none_seen = replicate 4097 false

-- the choices that the count has had
abbrev pub seen_after : List Bool → Part → List Bool
seen_after s part.HeaderLine = s
seen_after s part.Header = s
seen_after s (part.Size v) = s
seen_after s (part.Rules v) = s
seen_after s part.HeaderEnd = s
seen_after s part.RuleLine = s
seen_after s (part.Choice v) = s
seen_after s part.CountOpen = none_seen
seen_after s (part.Lower v) = s
seen_after s (part.Upper v) = s
seen_after s (part.Member v) = slice_set s v true
seen_after s part.CountClose = s
seen_after s part.Comma = s
seen_after s part.RuleEnd = s
seen_after s part.End = s

-- a reader that has taken a part
abbrev pub Noted : LineReader → Part → LineReader → Type 0
Noted r p r' = (r'.size.value ≡ size_after r.size.value p) × (r'.seen ≡ seen_after r.seen p)

abbrev pub Admitted : LineReader → Part → LineReader → Result (Unit {0}) LineCause → Type 0
Admitted r p r' (Ok _) = (line_fault r.size.value r.seen p ≡ None) × (r'.state ≡ r.state) × Noted r p r'
Admitted r p r' (Err c) = (line_fault r.size.value r.seen p ≡ Some c) × (r' ≡ r)

abbrev pub by_taken : LineReader → Taken → Option LineCause
by_taken r None = Some Form
by_taken r (Some x) = line_fault r.size.value r.seen x.0

-- one token taken, or refused with nothing changed
abbrev pub Stepped : LineReader → Token → LineReader → Result Part LineCause → Type 0
Stepped r t r' (Ok p) = (plays r.state t ≡ Some (p, r'.state)) × (line_fault r.size.value r.seen p ≡ None) × Noted r p r'
Stepped r t r' (Err c) = (by_taken r (plays r.state t) ≡ Some c) × (r' ≡ r)

abbrev pub is_end : Part → Bool
is_end part.HeaderLine = false
is_end part.Header = false
is_end (part.Size v) = false
is_end (part.Rules v) = false
is_end part.HeaderEnd = false
is_end part.RuleLine = false
is_end (part.Choice v) = false
is_end part.CountOpen = false
is_end (part.Lower v) = false
is_end (part.Upper v) = false
is_end (part.Member v) = false
is_end part.CountClose = false
is_end part.Comma = false
is_end part.RuleEnd = false
is_end part.End = true

-- The line reader and the scanner, from before to after, at the first word ahead: a part is the step that its token takes;
-- a refusal is the scanner's or that of its token.
abbrev pub LineReads : LineReader → Scanner → LineReader → Scanner → Result (ℕ × Part) LineFault → Type 0
LineReads r s r' s' (Ok x) = (t : Token) × TokenFirst (ahead s) x.0 t s' × Stepped r t r' (Ok x.1)
LineReads r s r' s' (Err (Scan f)) = (w : Word) × (ws : List Placed) × (ahead s ≡ (f.place, w) ∷ ws) × Refused f.cause w
LineReads r s r' s' (Err (Line f)) = (t : Token) × TokenFirst (ahead s) f.place t s' × (by_taken r (plays r.state t) ≡ Some f.cause)

-- a part other than the end brings the scanner nearer to it
abbrev pub LineNearer : Scanner → Scanner → Result (ℕ × Part) LineFault → Type 0
LineNearer s s' (Ok x) = is_end x.1 ≡ false → left s' < left s
LineNearer s s' (Err e) = Unit {0}

abbrev pub Nearer : FileReader → FileReader → Result Part Fault → Type 0
Nearer r r' (Ok p) = is_end p ≡ false → left r'.scanner < left r.scanner
Nearer r r' (Err e) = Unit {0}

-- what is one too many
abbrev pub file_fault : Tally → Part → Option FileCause
file_fault t part.HeaderLine = None
file_fault t part.Header = None
file_fault t (part.Size v) = cond (nat_lt 4096 v) (Some Limit) None
file_fault t (part.Rules v) = cond (nat_lt 2048 v) (Some Limit) None
file_fault t part.HeaderEnd = None
file_fault t part.RuleLine = cond (nat_le t.declared t.rules) (Some RulesCause) None
file_fault t (part.Choice v) = cond (nat_le 16384 t.entries) (Some Limit) None
file_fault t part.CountOpen = cond (nat_le 1024 t.counts) (Some Limit) None
file_fault t (part.Lower v) = None
file_fault t (part.Upper v) = None
file_fault t (part.Member v) = cond (nat_le 16384 t.entries) (Some Limit) None
file_fault t part.CountClose = None
file_fault t part.Comma = None
file_fault t part.RuleEnd = None
file_fault t part.End = cond (nat_lt t.rules t.declared) (Some RulesCause) None

-- a tally with one part more
abbrev pub counted : Tally → Part → Tally
counted t part.HeaderLine = t
counted t part.Header = t
counted t (part.Size v) = t
counted t (part.Rules v) = record { declared = v; rules = t.rules; counts = t.counts; entries = t.entries }
counted t part.HeaderEnd = t
counted t part.RuleLine = record { declared = t.declared; rules = t.rules + 1; counts = t.counts; entries = t.entries }
counted t (part.Choice v) = record { declared = t.declared; rules = t.rules; counts = t.counts; entries = t.entries + 1 }
counted t part.CountOpen = record { declared = t.declared; rules = t.rules; counts = t.counts + 1; entries = t.entries }
counted t (part.Lower v) = t
counted t (part.Upper v) = t
counted t (part.Member v) = record { declared = t.declared; rules = t.rules; counts = t.counts; entries = t.entries + 1 }
counted t part.CountClose = t
counted t part.Comma = t
counted t part.RuleEnd = t
counted t part.End = t

-- one more of n, where that is at most some number
abbrev pub OneMore : ℕ → ℕ → FileCause → ℕ → Result (Unit {0}) FileCause → Type 0
OneMore n most c n' (Ok _) = (n < most) × (n' ≡ n + 1)
OneMore n most c n' (Err d) = (most ≤ n) × (d ≡ c) × (n' ≡ n)

abbrev pub Counted : Tally → Part → Tally → Result (Unit {0}) FileCause → Type 0
Counted t p t' (Ok _) = (file_fault t p ≡ None) × (t' ≡ counted t p)
Counted t p t' (Err c) = (file_fault t p ≡ Some c) × (t' ≡ t)

-- a part that is taken is counted in
abbrev pub Tallied : Tally → Tally → Result Part Fault → Type 0
Tallied t t' (Ok p) = (file_fault t p ≡ None) × (t' ≡ counted t p)
Tallied t t' (Err e) = Unit {0}
