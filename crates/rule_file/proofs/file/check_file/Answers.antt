use Rattle.std.proofs.Common.{◌≡◌, ℕ, ◌<◌, ◌≤◌, List, length, Ok, Err, Result, MatchResult, rules, sym, refl, ap, ◌∙◌, subst, arith}
use Rattle.std.specs.Result.{IsErrAnd}
use Rattle.scan.specs.Bytes.{file_words}
use Rattle.rule_file.specs.declared.fault.Fault.{Fault}
use Rattle.rule_file.specs.declared.fault.FileCause.TheVariants.{Bytes}
use Rattle.rule_file.specs.declared.fault.FileFault.{FileFault}
use Rattle.rule_file.specs.Faults.{file_at, located}
use Rattle.rule_file.specs.declared.file.Extent.{Extent}
use Rattle.rule_file.specs.Files.{Checked, Refused}
use Rattle.rule_file.specs.Machine.{start_mach, Refuses, ReadThrough, Passed}
use Rattle.rule_file.proofs.Answering.{accepted, refused, passed_as_form, answered_once}
use Rattle.rule_file.proofs.Spelling.{spelled_once}
use Rattle.rule_file.proofs.file.check_file.Goals as goal

-- a fault with its line
refused_at :
    (bs : List ℕ) (f : Fault) (g : FileFault) → g ≡ located bs f → (65535 < length bs → f ≡ file_at Bytes 65535) → (length bs ≤ 65535 → Refuses start_mach (file_words bs) f) →
    Refused bs g × Passed bs (Err g)
refused_at bs f g e b r =
    let q : g.fault ≡ f = ap (λ (z : FileFault). z.fault) e in
    let k : length bs ≤ 65535 → Refuses start_mach (file_words bs) g.fault = λ h. subst (Refuses start_mach (file_words bs)) (sym q) (r h) in
    (refused bs g (e ∙ ap (located bs) (sym q)) (λ h. q ∙ b h) k, k)

pub returns-then-bytes-gt-MAX_BYTES : goal.returns-then-bytes-gt-MAX_BYTES
returns-then-bytes-gt-MAX_BYTES c =
    let x = refused_at c.args.bytes.now (file_at Bytes 65535) c.refused.result c.refused.ensures (λ _. refl) (λ h. absurd (omega arith)) in
    record { checked = x.0; passes = x.1; parts = passed_as_form; spelled = spelled_once; answered = answered_once }

-- what the reading answers, with the line of its fault
checked_by :
    (bs : List ℕ) (r : Result Extent Fault) (q : Result Extent FileFault) → length bs ≤ 65535 → ReadThrough bs r →
    MatchResult r (λ x. q ≡ Ok x) (λ f. IsErrAnd q (λ g. g ≡ located bs f)) → Checked bs q × Passed bs q
checked_by bs (Ok x) q h t e =
    let p : Passed bs (Ok x) = (h, t) in subst (λ (z : Result Extent FileFault). Checked bs z × Passed bs z) (sym e) (accepted _ _ p, p)
checked_by bs (Err f) (Ok x) h t e = absurd e
checked_by bs (Err f) (Err g) h t e = let g' = refused_at bs f g e (λ k. absurd (omega arith)) (λ _. t) in (g'.0, g'.1)

pub returns : goal.returns
returns c =
    let k : MatchResult c.read_through.result (λ x. c.map_err.result ≡ Ok x) (λ f. IsErrAnd c.map_err.result (λ g. g ≡ located c.args.bytes.now f)) = search rules in
    let x = checked_by c.args.bytes.now c.read_through.result c.map_err.result c.if-bytes-gt-MAX_BYTES.false c.read_through.ensures k in
    record { checked = x.0; passes = x.1; parts = passed_as_form; spelled = spelled_once; answered = answered_once }
