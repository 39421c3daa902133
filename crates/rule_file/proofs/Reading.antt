-- The reading of a whole file, turn by turn.
use Rattle.std.proofs.Common.{◌≡◌, ℕ, false, cond, List, [], ◌∷◌, sym, ap, ◌∙◌, subst}
use Rattle.scan.specs.Bytes.{file_words}
use Rattle.scan.specs.Scans.{ahead}
use Rattle.scan.specs.Words.{Placed}
use Rattle.rule_file.specs.declared.fault.Fault.{Fault}
use Rattle.rule_file.specs.declared.file.FileReader.{FileReader}
use Rattle.rule_file.specs.declared.line.Part.{Part}
use Rattle.rule_file.specs.declared.line.Part.TheVariants as part
use Rattle.rule_file.specs.Files.{Started}
use Rattle.rule_file.specs.Form.{words_only}
use Rattle.rule_file.specs.Machine.{Mach, mach, start_mach, Takes, Passes, ends, goes_on, Stops, Refuses, stops, later, MovedOn}
use Rattle.rule_file.specs.Reader.{is_end}

-- what the machine does with the words left, it does with those of the whole file
abbrev pub Leads : List ℕ → Mach → List Placed → Type 0
Leads bs m ws =
    ((ps : List Part) (z : Mach) → Passes m (words_only ws) ps z → (qs : List Part) × Passes start_mach (words_only (file_words bs)) qs z) ×
    ((f : Fault) → Refuses m ws f → Refuses start_mach (file_words bs) f)

pub leads_start : (bs : List ℕ) (r : FileReader) → Started r bs → Leads bs (mach r) (ahead r.scanner)
leads_start bs r s = subst (λ (ws : List Placed). Leads bs (mach r) ws) (sym s.words) (subst (λ (m : Mach). Leads bs m (file_words bs)) (sym same) at_start)
  where
    same : mach r ≡ start_mach
    same = λ i. record { state = s.state i; size = s.size i; seen = s.seen i; tally = s.tally i }

    at_start : Leads bs start_mach (file_words bs)
    at_start = ((λ ps z x. (ps, x)), (λ f x. x))

module _ (bs : List ℕ) (r r' : FileReader) where
  pub leads_on : (p : Part) → MovedOn r p r' → is_end p ≡ false → Leads bs (mach r) (ahead r.scanner) → Leads bs (mach r') (ahead r'.scanner)
  leads_on p m e k =
      ((λ ps z x. l.0 (p ∷ ps) z (goes_on m.takes e x)), (λ f x. l.1 f (later m.takes e x)))
    where
      rest : m.rest ≡ ahead r'.scanner
      rest = m.left ∙ rw e

      l : Leads bs (mach r) ((m.place, m.word) ∷ ahead r'.scanner)
      l = subst (λ (ws : List Placed). Leads bs (mach r) ((m.place, m.word) ∷ ws)) rest (subst (Leads bs (mach r)) m.was k)

  pub leads_end : (p : Part) → MovedOn r p r' → p ≡ part.End → Leads bs (mach r) (ahead r.scanner) → (qs : List Part) × Passes start_mach (words_only (file_words bs)) qs (mach r')
  leads_end p m e k = l.0 (part.End ∷ []) (mach r') (ends t)
    where
      t : Takes (mach r) m.word part.End (mach r')
      t = subst (λ (q : Part). Takes (mach r) m.word q (mach r')) e m.takes

      rest : m.rest ≡ []
      rest = m.left ∙ ap (λ (q : Part). cond (is_end q) [] (ahead r'.scanner)) e

      l : Leads bs (mach r) ((m.place, m.word) ∷ [])
      l = subst (λ (ws : List Placed). Leads bs (mach r) ((m.place, m.word) ∷ ws)) rest (subst (Leads bs (mach r)) m.was k)

pub leads_stop : (bs : List ℕ) (m : Mach) (ws : List Placed) (f : Fault) → Stops m ws f → Leads bs m ws → Refuses start_mach (file_words bs) f
leads_stop bs m ws f s k = k.1 f (stops s)
