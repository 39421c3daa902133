-- What the reader of files does at one word, as moves of the machine.
use Rattle.std.proofs.Common.{◌≡◌, ℕ, Bool, true, false, cond, leb, List, [], ◌∷◌, Some, None, Ok, Err, sym, refl, ap, ◌∙◌, subst, le-ltb, lt-ltb}
use Rattle.scan.specs.declared.ScanCause.{ScanCause}
use Rattle.scan.specs.declared.ScanCause.TheVariants.{UnknownByte, NumberTooLarge}
use Rattle.scan.specs.declared.Token.{Token}
use Rattle.scan.specs.declared.Token.TheVariants as tok
use Rattle.scan.specs.declared.scanner.Scanner.{Scanner}
use Rattle.scan.specs.Scans.{ahead, word_of, final, Small, Refused}
use Rattle.scan.specs.Words.{Word, line, Placed}
use Rattle.rule_file.specs.declared.fault.Fault.{Fault}
use Rattle.rule_file.specs.declared.fault.Fault.TheVariants.{Line as InLine}
use Rattle.rule_file.specs.declared.fault.LineCause.{LineCause}
use Rattle.rule_file.specs.declared.fault.LineCause.TheVariants.{Form}
use Rattle.rule_file.specs.Faults.{line_at, file_at}
use Rattle.rule_file.specs.declared.fault.FileCause.{FileCause}
use Rattle.rule_file.specs.declared.fault.FileCause.TheVariants.{Rules as RulesCause}
use Rattle.rule_file.specs.declared.fault.LineFault.{LineFault}
use Rattle.rule_file.specs.declared.fault.LineFault.TheVariants.{Scan, Line}
use Rattle.rule_file.specs.declared.file.FileReader.{FileReader}
use Rattle.rule_file.specs.declared.file.Tally.{Tally}
use Rattle.rule_file.specs.declared.line.LineReader.{LineReader}
use Rattle.rule_file.specs.declared.line.Part.{Part}
use Rattle.rule_file.specs.declared.line.Part.TheVariants as part
use Rattle.rule_file.specs.declared.line.State.{State}
use Rattle.rule_file.specs.declared.line.State.TheVariants as state
use Rattle.rule_file.specs.declared.line.Half.TheVariants.{Body}
use Rattle.rule_file.specs.Form.{written_as}
use Rattle.rule_file.specs.Reader.{Taken, plays, by_taken, file_fault, counted, LineReads}
use Rattle.rule_file.specs.Machine.{Mach, scanned, by_form, by_scan, word_fault, surplus_fault, in_rule, Stops, at_word, at_surplus, MovedOn}
use Rattle.rule_file.proofs.Walks.{plays_step, final_end, Step, rule_line}
use Rattle.rule_file.proofs.Clash.{clash}

pub scan_ok : (t : Token) → Small t → scanned (word_of t) ≡ Ok t
scan_ok tok.Line h = refl
scan_ok tok.End h = refl
scan_ok (tok.Number v) h = rw (le-ltb 65535 v h)
scan_ok tok.Open h = refl
scan_ok tok.Close h = refl
scan_ok tok.Comma h = refl
scan_ok tok.Header h = refl
scan_ok tok.Stray h = refl
scan_ok tok.Feed h = refl
scan_ok tok.Cut h = refl

scan_err : (c : ScanCause) (w : Word) → Refused c w → scanned w ≡ Err c
scan_err UnknownByte w h = ap scanned h
scan_err NumberTooLarge w h = ap scanned h.2 ∙ rw (lt-ltb 65535 h.0 h.1)

-- the machine of a line reader with a tally
abbrev with_tally : LineReader → Tally → Mach
with_tally l t = record { state = l.state; size = l.size.value; seen = l.seen; tally = t }

-- the fault of a word with a token
token_fault : (m : Mach) (i : ℕ) (t : Token) → Small t → word_fault m i (word_of t) ≡ by_form m i (plays m.state t)
token_fault m i t h = ap (by_scan m i) (scan_ok t h)

module _ (l l' : LineReader) (s s' : Scanner) (t t' : Tally) where
  abbrev whole : FileReader
  whole = record { scanner = s; line = l; tally = t }

  abbrev whole' : FileReader
  whole' = record { scanner = s'; line = l'; tally = t' }

  -- a part that is counted
  pub moved : (i : ℕ) (p : Part) → LineReads l s l' s' (Ok (i, p)) → file_fault t p ≡ None → t' ≡ counted t p → MovedOn whole p whole'
  moved i p r n c =
      let a = r.0 in
      let e = r.2.0 in
      record {
        place = i;
        word = word_of a;
        rest = cond (final a) [] (ahead s');
        was = r.1.0;
        takes = record { token = a; scans = scan_ok a r.1.1; played = e; right = r.2.1; room = n; size = r.2.2.0; seen = r.2.2.1; tally = c };
        left = ap (λ (b : Bool). cond b [] (ahead s')) (final_end l.state a p l'.state e);
      }

  at_ahead : {ws : List Placed} {f : Fault} → ahead s ≡ ws → Stops (with_tally l t) ws f → Stops (with_tally l t) (ahead s) f
  at_ahead {ws} {f} e x = subst (λ (z : List Placed). Stops (with_tally l t) z f) (sym e) x

  -- a word that the scanner or the line reader refuses
  pub refused_line : (f : LineFault) → LineReads l s l' s' (Err f) → Stops (with_tally l t) (ahead s) (InLine f)
  refused_line (Scan f) r =
      at_ahead r.2 (at_word (ap (by_scan (with_tally l t) f.place) (scan_err f.cause r.0 r.3)) (λ _ e. clash (cc)))
  refused_line (Line f) r = at_ahead r.1.0 (at_word (token_fault (with_tally l t) f.place r.0 r.1.1 ∙ by (plays l.state r.0) r.2) (λ _ e. clash (cc)))
    where
      by : (o : Taken) → by_taken l o ≡ Some f.cause → by_form (with_tally l t) f.place o ≡ Some (InLine (Line f))
      by None e = let q : Form ≡ f.cause = cc in ap (λ (z : LineCause). Some (InLine (line_at z f.place))) q
      by (Some x) e = rw e

  -- a part that is one too many
  pub refused_file :
      (i : ℕ) (p : Part) (c : FileCause) → LineReads l s l' s' (Ok (i, p)) → file_fault t p ≡ Some c → (p ≡ part.RuleLine → ⊥) →
      Stops (with_tally l t) (ahead s) (file_at c i)
  refused_file i p c r e other =
      at_ahead r.1.0 (at_word (token_fault (with_tally l t) i r.0 r.1.1 ∙ rw (r.2.0, r.2.1, e)) (λ w g. other (at_line p ((plays_step l.state r.0 p l'.state r.2.0).1 ∙ w) e)))
    where
      at_line : (p : Part) → written_as p ≡ line → file_fault t p ≡ Some c → p ≡ part.RuleLine
      at_line part.HeaderLine w e = clash (cc)
      at_line part.Header w e = clash (cc)
      at_line (part.Size v) w e = clash (cc)
      at_line (part.Rules v) w e = clash (cc)
      at_line part.HeaderEnd w e = clash (cc)
      at_line part.RuleLine w e = refl
      at_line (part.Choice v) w e = clash (cc)
      at_line part.CountOpen w e = clash (cc)
      at_line (part.Lower v) w e = clash (cc)
      at_line (part.Upper v) w e = clash (cc)
      at_line (part.Member v) w e = clash (cc)
      at_line part.CountClose w e = clash (cc)
      at_line part.Comma w e = clash (cc)
      at_line part.RuleEnd w e = clash (cc)
      at_line part.End w e = clash (cc)

  -- a line that is one rule too many
  pub refused_rule :
      (i : ℕ) (p : Part) (c : FileCause) (f : Fault) → LineReads l s l' s' (Ok (i, p)) → p ≡ part.RuleLine → file_fault t p ≡ Some c → t' ≡ t →
      f ≡ surplus_fault (with_tally l' t') i (ahead s') → Stops (with_tally l t) (ahead s) f
  refused_rule i p c f r₀ q e₀ u g = at_ahead (r.1.0 ∙ the_words) (at_surplus (the_fault) (g ∙ ap (λ (m : Mach). surplus_fault m i (ahead s')) same))
    where
      r : LineReads l s l' s' (Ok (i, part.RuleLine))
      r = subst (λ (z : Part). LineReads l s l' s' (Ok (i, z))) q r₀

      only : (b : Bool) → cond b (Some RulesCause) None ≡ Some c → cond b (Some RulesCause) None ≡ Some RulesCause
      only true h = refl
      only false h = clash (cc)

      e : file_fault t part.RuleLine ≡ Some RulesCause
      e = only (leb t.declared t.rules) (ap (file_fault t) (sym q) ∙ e₀)

      at : {s₁ u₁ : State} → Step s₁ part.RuleLine u₁ → u₁ ≡ state.Items Body
      at rule_line = refl

      a : Token
      a = r.0

      is_line : word_of a ≡ line
      is_line = sym (plays_step l.state a part.RuleLine l'.state r.2.0).1

      body : l'.state ≡ state.Items Body
      body = at (plays_step l.state a part.RuleLine l'.state r.2.0).0

      the_words : (i, word_of a) ∷ cond (final a) [] (ahead s') ≡ (i, line) ∷ ahead s'
      the_words = rw (is_line, final_end l.state a part.RuleLine l'.state r.2.0)

      the_fault : word_fault (with_tally l t) i line ≡ Some (file_at RulesCause i)
      the_fault = ap (word_fault (with_tally l t) i) (sym is_line) ∙ token_fault (with_tally l t) i a r.1.1 ∙ rw (r.2.0, e)

      same : with_tally l' t' ≡ in_rule (with_tally l t)
      same = λ j. record { state = body j; size = r.2.2.0 j; seen = r.2.2.1 j; tally = u j }
