-- What the machine does with a file is what the check has to answer.
use Rattle.std.proofs.Common.{◌≡◌, ℕ, ◌<◌, ◌≤◌, Bool, true, false, cond, eqb, ltb, ◌⊎◌, List, [], ◌∷◌, ◌++◌, length, Ok, Err, sym, refl, ap, ◌∙◌, subst, inl, inr, arith, ltb-false, ltb-true, le-ltb}
use mathlib.Core.HLevel.{is_prop→PathP}
use native.Mathlib.Bridge.{le_prop}
use Rattle.book.specs.declared.size.SheetSize.{SheetSize}
use Rattle.rules.specs.Rules.{Rule}
use Rattle.scan.specs.declared.ScanCause.{ScanCause}
use Rattle.scan.specs.declared.ScanCause.TheVariants.{UnknownByte, NumberTooLarge}
use Rattle.scan.specs.declared.Token.{Token}
use Rattle.scan.specs.declared.Token.TheVariants as tok
use Rattle.scan.specs.Bytes.{file_words}
use Rattle.scan.specs.Causes.{scan_number}
use Rattle.scan.specs.Words.{Word, line, header, stray, number, opening, closing, comma, feed, unknown, end, cut, Placed}
use Rattle.scan.proofs.Grammar.{every_file_reads, files_read_once}
use Rattle.rule_file.specs.declared.fault.Fault.{Fault}
use Rattle.rule_file.specs.declared.fault.LineCause.{LineCause}
use Rattle.rule_file.specs.declared.fault.FileCause.{FileCause}
use Rattle.rule_file.specs.declared.fault.Fault.TheVariants.{Line as InLine, File as InFile}
use Rattle.rule_file.specs.declared.fault.FileCause.TheVariants.{Storage, Bytes, Limit, Rules as RulesCause, Writing}
use Rattle.rule_file.specs.declared.fault.FileFault.{FileFault}
use Rattle.rule_file.specs.declared.fault.LineCause.TheVariants.{Form, Choice as ChoiceCause, Repeated}
use Rattle.rule_file.specs.declared.fault.LineFault.TheVariants.{Scan, Line}
use Rattle.rule_file.specs.declared.file.Extent.{Extent}
use Rattle.rule_file.specs.declared.file.Tally.{Tally}
use Rattle.rule_file.specs.declared.line.Part.{Part}
use Rattle.rule_file.specs.declared.line.Part.TheVariants as part
use Rattle.rule_file.specs.declared.line.State.{State}
use Rattle.rule_file.specs.declared.line.State.TheVariants as state
use Rattle.rule_file.specs.Causes.{CauseAt, FirstFault, Sum, nothing_yet, adding_all, sum}
use Rattle.rule_file.specs.Faults.{line_number, file_number, line_at, file_at, told, place_of, told_file, located}
use Rattle.rule_file.specs.Files.{Accepted, Refused, AnsweredOnce, PassedAsForm}
use Rattle.rule_file.specs.Form.{written_as, all_written, form, words_only, File}
use Rattle.rule_file.specs.Machine.{Mach, start_mach, scanned, Passes, ends, goes_on, Refuses, Passed}
use Rattle.rule_file.proofs.Held.{Held, held_start, takes_right, number_of, only_breaks, sum_on, written_on}
use Rattle.rule_file.proofs.Laid.{file_laid}
use Rattle.rule_file.proofs.Limits.{SmallWord, Sound, form_keep, form_fit}
use Rattle.rule_file.proofs.Spelling.{spelled_words, spelled_once}
use Rattle.rule_file.proofs.Telling.{FaultIn, FirstIn, cause_in, cause_at, refused_first}
use Rattle.rule_file.proofs.Walks.{Step, file_end, Walk, here, on, walk_on, form_walk, walk_form, walk_once, token_of}
use Rattle.rule_file.proofs.Clash.{clash}

small_scanned : (w : Word) (t : Token) → scanned w ≡ Ok t → SmallWord w
small_scanned line t e = tt
small_scanned header t e = tt
small_scanned stray t e = tt
small_scanned (number v) t e = at (ltb 65535 v) refl e
  where
    at : (b : Bool) → ltb 65535 v ≡ b → cond b (Err NumberTooLarge) (Ok (tok.Number v)) ≡ Ok t → v ≤ 65535
    at true q e = clash (cc)
    at false q e = ltb-false 65535 v q
small_scanned opening t e = tt
small_scanned closing t e = tt
small_scanned comma t e = tt
small_scanned feed t e = tt
small_scanned unknown t e = tt
small_scanned end t e = tt
small_scanned cut t e = tt

small_token : (p : Part) → SmallWord (written_as p) → scanned (written_as p) ≡ Ok (token_of (written_as p))
small_token part.HeaderLine h = refl
small_token part.Header h = refl
small_token (part.Size v) h = rw (le-ltb 65535 v h)
small_token (part.Rules v) h = rw (le-ltb 65535 v h)
small_token part.HeaderEnd h = refl
small_token part.RuleLine h = refl
small_token (part.Choice v) h = rw (le-ltb 65535 v h)
small_token part.CountOpen h = refl
small_token (part.Lower v) h = rw (le-ltb 65535 v h)
small_token (part.Upper v) h = rw (le-ltb 65535 v h)
small_token (part.Member v) h = rw (le-ltb 65535 v h)
small_token part.CountClose h = refl
small_token part.Comma h = refl
small_token part.RuleEnd h = refl
small_token part.End h = refl

end_over : {s u : State} → Step s part.End u → u ≡ state.Over
end_over file_end = refl

-- A reading to the end is a walk of the form whose parts break nothing.
pub record Whole (qs : List Part) (m : Mach) (ws : List Word) (ps : List Part) (z : Mach) : Type 0 where
  pub walk : Walk m.state ps state.Over
  pub written : all_written ps ≡ ws
  pub sound : Sound (sum qs) ps
  pub size : (adding_all (sum qs) ps).size ≡ z.size
  pub rules : (adding_all (sum qs) ps).rules ≡ z.tally.rules

pub passes_whole : {m z : Mach} {ws : List Word} {ps : List Part} → Passes m ws ps z → (qs : List Part) → Held qs m → Whole qs m ws ps z
passes_whole (ends {m = m} {m' = z} {w = w} t) qs h =
    let r = takes_right qs m z w part.End h t in
    let k = subst (λ (s : Sum). (s.size ≡ z.size) × (s.rules ≡ z.tally.rules)) (sum_on nothing_yet qs part.End) (r.held.keeps.size, ap (λ (s : Tally). s.rules) r.held.keeps.tally) in
    record {
      walk = on r.step (subst (λ (u : State). Walk z.state [] u) (end_over r.step) (here z.state));
      written = ap (λ (v : Word). v ∷ []) r.written;
      sound = (r.unbroken, subst SmallWord (sym r.written) (small_scanned w t.token t.scans), tt);
      size = k.0;
      rules = k.1;
    }
passes_whole (goes_on {m = m} {m' = m'} {m'' = z} {w = w} {p = p} {ws = ws} {ps = ps} t e k) qs h =
    let r = takes_right qs m m' w p h t in
    let i = passes_whole k (qs ++ (p ∷ [])) r.held in
    let s = sum_on nothing_yet qs p in
    record {
      walk = on r.step i.walk;
      written = ap (λ (v : Word). v ∷ all_written ps) r.written ∙ ap (λ (vs : List Word). w ∷ vs) i.written;
      sound = (r.unbroken, subst SmallWord (sym r.written) (small_scanned w t.token t.scans), subst (λ (y : Sum). Sound y ps) s i.sound);
      size = subst (λ (y : Sum). (adding_all y ps).size ≡ z.size) s i.size;
      rules = subst (λ (y : Sum). (adding_all y ps).rules ≡ z.tally.rules) s i.rules;
    }

pub passed_as_form : PassedAsForm
passed_as_form bs n m rs ps z x k =
    let w = passes_whole k [] held_start in
    (walk_once w.walk (form_walk n m rs) (w.written ∙ spelled_words bs n m rs x)).0

pub accepted : (bs : List ℕ) (x : Extent) → Passed bs (Ok x) → Accepted bs x
accepted bs x p =
    let y = p.1 in
    let z = y.1 in
    let w = passes_whole y.2 [] held_start in
    let f = walk_form w.walk in
    let n = f.0 in
    let m = f.1 in
    let rs = f.2 in
    let k = form_keep n m rs (subst (λ (ps : List Part). Sound nothing_yet ps) f.3 w.sound) in
    let size : n ≡ x.size.value = sym k.size ∙ ap (λ (ps : List Part). (sum ps).size) (sym f.3) ∙ w.size ∙ sym y.3 in
    let spelled : words_only (file_words bs) ≡ all_written (form n (length rs) rs) = sym w.written ∙ ap all_written f.3 ∙ ap (λ (v : ℕ). all_written (form n v rs)) k.many in
    let file : File bs n rs = record { bytes = p.0; spelled = (file_words bs, every_file_reads bs, spelled); within = k.within } in
    record {
      the_rules = rs;
      file = subst (λ (v : ℕ). File bs v rs) size file;
      many = y.4 ∙ sym w.rules ∙ ap (λ (ps : List Part). (sum ps).rules) f.3 ∙ k.rules;
    }

-- A file of the form within the limits has no cause at any place.
no_cause : {s u : State} {ps : List Part} → Walk s ps u → (qs : List Part) → Walk state.Start qs s → Sound (sum qs) ps → (ws : List Placed) (i c : ℕ) → words_only ws ≡ all_written ps → FaultIn (all_written qs) ws i c → ⊥
no_cause (here s) qs v x [] i c e f = f
no_cause (here s) qs v x (w ∷ ws) i c e f = clash (cc)
no_cause (on y k) qs v x [] i c e f = f
no_cause (on {s = s} {t = u} {p = p} {ps = ps} y k) qs v x (w ∷ ws) i c e f = by f (no_cause k (qs ++ (p ∷ [])) (walk_on v y) (subst (λ (z : Sum). Sound z ps) (sym (sum_on nothing_yet qs p)) x.2) ws i c rest)
  where
    first : written_as p ≡ w.1
    first = cc

    rest : words_only ws ≡ all_written ps
    rest = cc

    by : FaultIn (all_written qs) (w ∷ ws) i c → (FaultIn (all_written (qs ++ (p ∷ []))) ws i c → ⊥) → ⊥
    by (inl f) ih = x.0 c (only_breaks qs s v p u (token_of (written_as p)) y first (ap scanned (sym first) ∙ small_token p x.1) f.1)
    by (inr f) ih = ih (subst (λ (z : List Word). FaultIn z ws i c) (ap (λ (z : Word). all_written qs ++ (z ∷ [])) (sym first) ∙ sym (written_on qs p)) f)

file_no_cause : (bs : List ℕ) (n : ℕ) (rs : List Rule) → File bs n rs → (i c : ℕ) → FaultIn [] (file_words bs) i c → ⊥
file_no_cause bs n rs x i c f =
    no_cause (form_walk n (length rs) rs) [] (here state.Start) (form_fit n rs x.within) (file_words bs) i c (spelled_words bs n (length rs) rs x.spelled) f

told_place : (f : Fault) → (told f).place ≡ place_of f
told_place (InLine (Scan f)) = refl
told_place (InLine (Line f)) = refl
told_place (InFile f) = refl

pub refused :
    (bs : List ℕ) (f : FileFault) → f ≡ located bs f.fault → (65535 < length bs → f.fault ≡ file_at Bytes 65535) →
    (length bs ≤ 65535 → Refuses start_mach (file_words bs) f.fault) → Refused bs f
refused bs f l b r =
    record { no_file = λ n rs x. file_no_cause bs n rs x _ _ (first x.bytes).0; line = l; bytes = b; first = told_first }
  where
    first : length bs ≤ 65535 → FirstIn [] (file_words bs) (place_of f.fault) (number_of f.fault)
    first h = refused_first (r h) [] true 0 held_start (file_laid bs) (λ _. inl refl)

    told_first : length bs ≤ 65535 → FirstFault bs (told_file f).place (told_file f).number
    told_first h =
        let x : FirstIn [] (file_words bs) (told_file f).place (told_file f).number = subst (λ (i : ℕ). FirstIn [] (file_words bs) i (told_file f).number) (sym (told_place f.fault)) (first h) in
        record { words = file_words bs; reads = every_file_reads bs; there = cause_at (file_words bs) _ _ x.0; first = λ j d y. x.1 j d (cause_in (file_words bs) j d y) }

-- A fault is known by its number and its place.
abbrev of_number : ℕ → ℕ → Fault
of_number n i =
    cond (eqb n 9) (file_at Storage i) (
    cond (eqb n 10) (file_at Bytes i) (
    cond (eqb n 11) (InLine (Scan (record { cause = UnknownByte; place = i }))) (
    cond (eqb n 12) (InLine (Scan (record { cause = NumberTooLarge; place = i }))) (
    cond (eqb n 13) (InLine (line_at Form i)) (
    cond (eqb n 14) (InLine (line_at ChoiceCause i)) (
    cond (eqb n 15) (InLine (line_at Repeated i)) (
    cond (eqb n 16) (file_at Limit i) (
    cond (eqb n 17) (file_at RulesCause i) (file_at Writing i)))))))))

scan_of_number : (c : ScanCause) (i : ℕ) → of_number (scan_number c) i ≡ InLine (Scan (record { cause = c; place = i }))
scan_of_number UnknownByte i = refl
scan_of_number NumberTooLarge i = refl

line_of_number : (c : LineCause) (i : ℕ) → of_number (line_number c) i ≡ InLine (line_at c i)
line_of_number Form i = refl
line_of_number ChoiceCause i = refl
line_of_number Repeated i = refl

file_of_number : (c : FileCause) (i : ℕ) → of_number (file_number c) i ≡ file_at c i
file_of_number Storage i = refl
file_of_number Bytes i = refl
file_of_number Limit i = refl
file_of_number RulesCause i = refl
file_of_number Writing i = refl

known : (f : Fault) → of_number (told f).number (told f).place ≡ f
known (InLine (Scan f)) = scan_of_number f.cause f.place
known (InLine (Line f)) = line_of_number f.cause f.place
known (InFile f) = file_of_number f.cause f.place

same_least : (i c j d : ℕ) → (i < j) ⊎ ((i ≡ j) × (c ≤ d)) → (j < i) ⊎ ((j ≡ i) × (d ≤ c)) → (i ≡ j) × (c ≡ d)
same_least i c j d (inl x) (inl y) = absurd (omega arith)
same_least i c j d (inl x) (inr y) = absurd (omega (arith, y.0))
same_least i c j d (inr x) (inl y) = absurd (omega (arith, x.0))
same_least i c j d (inr x) (inr y) = (x.0, omega (arith, x.1, y.1))

first_once : (bs : List ℕ) (i c j d : ℕ) → FirstFault bs i c → FirstFault bs j d → (i ≡ j) × (c ≡ d)
first_once bs i c j d x y =
    let e = files_read_once bs x.words y.words x.reads y.reads in
    let p : CauseAt x.words j d = subst (λ (ws : List Placed). CauseAt ws j d) (sym e) y.there in
    let q : CauseAt y.words i c = subst (λ (ws : List Placed). CauseAt ws i c) e x.there in
    same_least i c j d (x.first j d p) (y.first i c q)

same_fault : (bs : List ℕ) (f g : FileFault) → Refused bs f → Refused bs g → f.fault ≡ g.fault
same_fault bs f g x y = at (ltb 65535 (length bs)) refl
  where
    at : (b : Bool) → ltb 65535 (length bs) ≡ b → f.fault ≡ g.fault
    at true e = let h = ltb-true 65535 (length bs) e in x.bytes h ∙ sym (y.bytes h)
    at false e =
        let h = ltb-false 65535 (length bs) e in
        let k = first_once bs _ _ _ _ (x.first h) (y.first h) in
        sym (known f.fault) ∙ ap (of_number (told_file f).number) k.0 ∙ ap (λ (n : ℕ). of_number n (told_file g).place) k.1 ∙ known g.fault

-- a size is known by its value
same_size : (x y : SheetSize) → x.value ≡ y.value → x ≡ y
same_size x y e = λ i. record { value = e i; small = is_prop→PathP (λ j. e j ≤ 4096) (λ j. le_prop) x.small y.small i }

pub answered_once : AnsweredOnce
answered_once bs (Ok x) (Ok y) a b =
    let s = spelled_once bs _ _ _ _ _ _ a.file.spelled b.file.spelled in
    let size = same_size x.size y.size s.0 in
    let rules : x.rules ≡ y.rules = a.many ∙ s.1 ∙ sym b.many in
    λ i. Ok (record { size = size i; rules = rules i })
answered_once bs (Ok x) (Err f) a b = absurd (b.no_file x.size.value a.the_rules a.file)
answered_once bs (Err f) (Ok y) a b = absurd (a.no_file y.size.value b.the_rules b.file)
answered_once bs (Err f) (Err g) a b = λ i. Err ((a.line ∙ ap (located bs) (same_fault bs f g a b) ∙ sym b.line) i)
