-- For those who read a file: what its machine does is settled by its words.
use Rattle.std.proofs.Common.{◌≡◌, ℕ, false, ◌⊎◌, List, [], ◌∷◌, Some, None, sym, refl, ap, ◌∙◌, subst, inl, inr}
use Rattle.scan.specs.Words.{Word, line, Placed}
use Rattle.rule_file.specs.declared.fault.Fault.{Fault}
use Rattle.rule_file.specs.declared.line.Part.{Part}
use Rattle.rule_file.specs.declared.line.Part.TheVariants as part
use Rattle.rule_file.specs.Form.{words_only}
use Rattle.rule_file.specs.Machine.{Mach, Takes, Passes, ends, goes_on, by_scan, word_fault, Stops, at_word, at_surplus, Refuses, stops, later}
use Rattle.rule_file.specs.Reader.{plays, is_end, size_after, seen_after, counted}
use Rattle.rule_file.proofs.Clash.{clash}
use Rattle.rule_file.proofs.Walks.{part_of, state_of}

abbrev Same : Part → Mach → Part → Mach → Type 0
Same p m q n = (p ≡ q) × (m ≡ n)

-- a word is taken in one way
pub takes_once : (m : Mach) (w : Word) (p q : Part) (x y : Mach) → Takes m w p x → Takes m w q y → Same p x q y
takes_once m w p q x y a b =
    let t : a.token ≡ b.token = let e = a.scans in let f = b.scans in cc in
    let e : Some (p, x.state) ≡ Some (q, y.state) = sym a.played ∙ ap (plays m.state) t ∙ b.played in
    let pq : p ≡ q = ap part_of e in
    let st : x.state ≡ y.state = ap state_of e in
    let sz : x.size ≡ y.size = a.size ∙ ap (size_after m.size) pq ∙ sym b.size in
    let se : x.seen ≡ y.seen = a.seen ∙ ap (seen_after m.seen) pq ∙ sym b.seen in
    let ta : x.tally ≡ y.tally = a.tally ∙ ap (counted m.tally) pq ∙ sym b.tally in
    (pq, λ i. record { state = st i; size = sz i; seen = se i; tally = ta i })

-- one step of a reading that passes: the end and no more words, or a part and the rest
abbrev pub Stepping : Part → Mach → List Word → List Part → Mach → Type 0
Stepping p x ws ps z =
    ((p ≡ part.End) × (ws ≡ []) × (ps ≡ part.End ∷ []) × (z ≡ x)) ⊎ ((is_end p ≡ false) × ((qs : List Part) × (ps ≡ p ∷ qs) × Passes x ws qs z))

pub passes_step : (x : Mach) (p : Part) {m z : Mach} {w : Word} {ws : List Word} {ps : List Part} → Passes m (w ∷ ws) ps z → Takes m w p x → Stepping p x ws ps z
passes_step x p (ends {m = m} {m' = n} {w = w} a) t = let s = takes_once m w p part.End x n t a in inl (s.0, refl, refl, sym s.1)
passes_step x p (goes_on {m = m} {m' = n} {m'' = z} {w = w} {p = q} {ws = ws} {ps = qs} a e k) t =
    let s = takes_once m w p q x n t a in
    inr (ap is_end s.0 ∙ e, (qs, ap (λ (r : Part). r ∷ qs) (sym s.0), subst (λ (y : Mach). Passes y ws qs z) (sym s.1) k))

-- no words, no reading
pub passes_some : {m z : Mach} {ws : List Word} {ps : List Part} → Passes m ws ps z → ws ≡ [] → ⊥
passes_some (ends a) e = clash (cc)
passes_some (goes_on a n k) e = clash (cc)

-- the same words from the same start are taken as the same parts and end alike
pub passes_once : (qs : List Part) (z : Mach) {m y : Mach} {ws : List Word} {ps : List Part} → Passes m ws ps y → Passes m ws qs z → (ps ≡ qs) × (y ≡ z)
passes_once qs z (ends {m = m} {m' = n} {w = w} a) b = by (passes_step n part.End b a)
  where
    by : Stepping part.End n [] qs z → (part.End ∷ [] ≡ qs) × (n ≡ z)
    by (inl u) = (sym u.2, sym u.3)
    by (inr u) = let e = u.0 in clash (cc)
passes_once qs z (goes_on {m = m} {m' = n} {m'' = y} {w = w} {p = p} {ws = ws} {ps = ps} a e k) b = by (λ rs. passes_once rs z k) (passes_step n p b a)
  where
    by : ((rs : List Part) → Passes n ws rs z → (ps ≡ rs) × (y ≡ z)) → Stepping p n ws qs z → (p ∷ ps ≡ qs) × (y ≡ z)
    by ih (inl u) = absurd (passes_some k u.1)
    by ih (inr u) = let i = ih u.1.0 u.1.2 in (ap (λ (r : List Part). p ∷ r) i.0 ∙ sym u.1.1, i.1)

-- a word that is refused is not taken
pub no_fault : (m x : Mach) (i : ℕ) (w : Word) (p : Part) → Takes m w p x → word_fault m i w ≡ None
no_fault m x i w p t = ap (by_scan m i) t.scans ∙ rw (t.played, t.right, t.room)

pub stops_not_takes : (x : Mach) (p : Part) {m : Mach} {i : ℕ} {w : Word} {ws : List Placed} {f : Fault} → Stops m ((i, w) ∷ ws) f → Takes m w p x → ⊥
stops_not_takes x p {m} (at_word {i = i} {w = w} e n) t = let g = no_fault m x i w p t in clash (cc)
stops_not_takes x p {m} (at_surplus {i = i} e g) t = let h = no_fault m x i line p t in clash (cc)

passes_first : {m z : Mach} {w : Word} {ws : List Word} {ps : List Part} → Passes m (w ∷ ws) ps z → (p : Part) × (x : Mach) × Takes m w p x
passes_first (ends a) = (_, _, a)
passes_first (goes_on a e k) = (_, _, a)

stops_not_passes : {m z : Mach} {ws : List Placed} {ps : List Part} {f : Fault} → Stops m ws f → Passes m (words_only ws) ps z → ⊥
stops_not_passes (at_word e n) b = let t = passes_first b in stops_not_takes t.1 t.0 (at_word {ws = []} e n) t.2
stops_not_passes (at_surplus {ws = ws} e n) b = let t = passes_first b in stops_not_takes t.1 t.0 (at_surplus {ws = ws} e n) t.2

-- what is taken to its end is not refused
pub passes_not_refused : {m z : Mach} {ws : List Placed} {ps : List Part} {f : Fault} → Refuses m ws f → Passes m (words_only ws) ps z → ⊥
passes_not_refused (stops s) b = stops_not_passes s b
passes_not_refused {z = z} {ps = ps} {f = f} (later {m = m} {m' = n} {i = i} {w = w} {p = p} {ws = ws} a e k) b = by (λ (qs : List Part). passes_not_refused {ps = qs} k) (passes_step n p b a)
  where
    by : ((qs : List Part) → Passes n (words_only ws) qs z → ⊥) → Stepping p n (words_only ws) ps z → ⊥
    by ih (inl u) = let g = ap is_end u.0 in clash (cc)
    by ih (inr u) = ih u.1.0 u.1.2
