-- The fault that is told is the first one.
use Rattle.std.proofs.Common.{◌≡◌, ℕ, ◌+◌, ◌<◌, ◌≤◌, Bool, true, false, cond, eqb, ltb, leb, ◌⊎◌, List, [], ◌∷◌, ◌++◌, Some, None, Ok, Err, Option, sym, refl, ap, ◌∙◌, subst, inl, inr, append_assoc, append-nil, arith, eqb-true}
use borrow.Author.Tests.{eqb-false}
use Rattle.scan.specs.declared.ScanCause.TheVariants.{NumberTooLarge}
use Rattle.scan.specs.declared.Token.TheVariants as tok
use Rattle.scan.specs.Words.{Word, line, header, stray, number, opening, closing, comma, feed, unknown, end, cut, Placed}
use Rattle.rule_file.specs.declared.fault.Fault.{Fault}
use Rattle.rule_file.specs.declared.fault.FileCause.TheVariants.{Rules as RulesCause}
use Rattle.rule_file.specs.declared.file.Tally.{Tally}
use Rattle.rule_file.specs.declared.line.Half.TheVariants.{Body}
use Rattle.rule_file.specs.declared.line.Part.{Part}
use Rattle.rule_file.specs.declared.line.Part.TheVariants as part
use Rattle.rule_file.specs.declared.line.State.{State}
use Rattle.rule_file.specs.declared.line.State.TheVariants as state
use Rattle.rule_file.specs.Causes.{CauseAt, Wrong, unknown_byte, large_number, no_form, broken, sum, nothing_yet, Sum}
use Rattle.rule_file.specs.Faults.{file_at, place_of}
use Rattle.rule_file.specs.Form.{written_as, all_written, words_only}
use Rattle.rule_file.specs.Machine.{Mach, by_limits, by_form, by_scan, word_fault, or_surplus, next_fault, in_rule, Stops, at_word, at_surplus, Refuses, stops, later}
use Rattle.rule_file.specs.Reader.{plays, counted}
use Rattle.rule_file.proofs.Held.{Held, Keeps, Exact, number_of, word_exact, takes_right, Right, written_on, low_breaks, sum_on}
use Rattle.rule_file.proofs.Laid.{is_line, is_feed, Laid}
use Rattle.rule_file.proofs.Walks.{Step, Walk, walk_on, header_line, header_p, size, rules, header_end, rule_line, file_end, choice, count_open, lower, upper, member, count_close, to_head, rule_end}
use Rattle.rule_file.proofs.Clash.{clash}

-- a cause at a place, word by word, after those before
abbrev pub FaultIn : List Word → List Placed → ℕ → ℕ → Type 0
FaultIn before [] i c = ⊥
FaultIn before (x ∷ ws) i c = ((i ≡ x.0) × Wrong before x.1 c) ⊎ FaultIn (before ++ (x.1 ∷ [])) ws i c

words_on : (xs ys : List Placed) → words_only (xs ++ ys) ≡ words_only xs ++ words_only ys
words_on [] ys = refl
words_on (x ∷ xs) ys = ap (λ (z : List Word). x.1 ∷ z) (words_on xs ys)

in_front : (b : List Word) (before : List Placed) (w : Word) (after : List Placed) (i c : ℕ) → Wrong (b ++ words_only before) w c → FaultIn b (before ++ ((i, w) ∷ after)) i c
in_front b [] w after i c x = inl (refl, subst (λ (z : List Word). Wrong z w c) (append-nil b) x)
in_front b (y ∷ before) w after i c x =
    inr (in_front (b ++ (y.1 ∷ [])) before w after i c (subst (λ (z : List Word). Wrong z w c) (sym (append_assoc b (y.1 ∷ []) (words_only before))) x))

pub cause_in : (ws : List Placed) (i c : ℕ) → CauseAt ws i c → FaultIn [] ws i c
cause_in ws i c x = subst (λ (z : List Placed). FaultIn [] z i c) (sym x.3) (in_front [] x.0 x.1 x.2 i c x.4)

out_of : (b : List Placed) (ws : List Placed) (i c : ℕ) → FaultIn (words_only b) ws i c → CauseAt (b ++ ws) i c
out_of b [] i c x = absurd x
out_of b (y ∷ ws) i c (inl x) = (b, y.1, ws, ap (λ (j : ℕ). b ++ ((j, y.1) ∷ ws)) (sym x.0), x.1)
out_of b (y ∷ ws) i c (inr x) =
    subst (λ (z : List Placed). CauseAt z i c) (append_assoc b (y ∷ []) ws) (out_of (b ++ (y ∷ [])) ws i c (subst (λ (z : List Word). FaultIn z ws i c) (sym (words_on b (y ∷ []))) x))

pub cause_at : (ws : List Placed) (i c : ℕ) → FaultIn [] ws i c → CauseAt ws i c
cause_at ws i c x = out_of [] ws i c x

abbrev pub FirstIn : List Word → List Placed → ℕ → ℕ → Type 0
FirstIn b ws i c = FaultIn b ws i c × ((j d : ℕ) → FaultIn b ws j d → (i < j) ⊎ ((i ≡ j) × (c ≤ d)))

line_or_not : (w : Word) → (w ≡ line) ⊎ (is_line w ≡ false)
line_or_not line = inl refl
line_or_not header = inr refl
line_or_not stray = inr refl
line_or_not (number v) = inr refl
line_or_not opening = inr refl
line_or_not closing = inr refl
line_or_not comma = inr refl
line_or_not feed = inr refl
line_or_not unknown = inr refl
line_or_not end = inr refl
line_or_not cut = inr refl

feed_word : (w : Word) → is_feed w ≡ true → w ≡ feed
feed_word line e = clash (cc)
feed_word header e = clash (cc)
feed_word stray e = clash (cc)
feed_word (number v) e = clash (cc)
feed_word opening e = clash (cc)
feed_word closing e = clash (cc)
feed_word comma e = clash (cc)
feed_word feed e = refl
feed_word unknown e = clash (cc)
feed_word end e = clash (cc)
feed_word cut e = clash (cc)

-- where a line may start
abbrev AtLine : State → Type 0
AtLine s = (s ≡ state.Start) ⊎ (s ≡ state.Between)

feed_step : {s u : State} {p : Part} → Step s p u → written_as p ≡ feed → AtLine u
feed_step header_line e = clash (cc)
feed_step header_p e = clash (cc)
feed_step (size n) e = clash (cc)
feed_step (rules m) e = clash (cc)
feed_step header_end e = inr refl
feed_step rule_line e = clash (cc)
feed_step file_end e = clash (cc)
feed_step (choice h c) e = clash (cc)
feed_step (count_open h) e = clash (cc)
feed_step (lower h k) e = clash (cc)
feed_step (upper h m) e = clash (cc)
feed_step (member h c) e = clash (cc)
feed_step (count_close h) e = clash (cc)
feed_step to_head e = clash (cc)
feed_step rule_end e = inr refl

-- the faults further on stand further on
later_places : (ws : List Placed) (f : Bool) (lo : ℕ) (b : List Word) (i c : ℕ) → Laid f lo ws → FaultIn b ws i c → lo ≤ i
later_places [] f lo b i c l x = absurd x
later_places (y ∷ ws) f lo b i c l (inl x) = let q = x.0 in omega (arith, l.0)
later_places (y ∷ ws) f lo b i c l (inr x) =
    let g = later_places ws (is_feed y.1) (cond (is_line y.1) y.0 (y.0 + 1)) (b ++ (y.1 ∷ [])) i c l.2 x in
    let k = at (is_line y.1) in
    omega (arith, l.0)
  where
    at : (t : Bool) → y.0 ≤ cond t y.0 (y.0 + 1)
    at true = omega arith
    at false = omega arith

-- a line has no fault but that of a rule too many, and this only between rules
line_fault_is : (m : Mach) (i : ℕ) (f : Fault) (s : State) → m.state ≡ s → AtLine s → word_fault m i line ≡ Some f → (f ≡ file_at RulesCause i) × (m.state ≡ state.Between)
line_fault_is m i f s e (inl q) x =
    let y : by_form m i (plays state.Start tok.Line) ≡ Some f = subst (λ (z : State). by_form m i (plays z tok.Line) ≡ Some f) (e ∙ q) x in
    clash (cc)
line_fault_is m i f s e (inr q) x =
    let y : by_form m i (plays state.Between tok.Line) ≡ Some f = subst (λ (z : State). by_form m i (plays z tok.Line) ≡ Some f) (e ∙ q) x in
    (at (leb m.tally.declared m.tally.rules) y, e ∙ q)
  where
    at : (b : Bool) → by_limits i None (cond b (Some RulesCause) None) ≡ Some f → f ≡ file_at RulesCause i
    at true y = let g : file_at RulesCause i ≡ f = cc in sym g
    at false y = clash (cc)

-- within a rule's line that was not counted, words have the faults that they have where it was
counted_rule : Mach → Mach
counted_rule m = record { state = state.Items Body; size = m.size; seen = m.seen; tally = counted m.tally part.RuleLine }

same_fault : (m : Mach) (j : ℕ) (w : Word) → word_fault (in_rule m) j w ≡ word_fault (counted_rule m) j w
unfolding counted_rule
same_fault m j line = refl
same_fault m j header = refl
same_fault m j stray = refl
same_fault m j (number v) = at (ltb 65535 v)
  where
    at : (b : Bool) → by_scan (in_rule m) j (cond b (Err NumberTooLarge) (Ok (tok.Number v))) ≡ by_scan (counted_rule m) j (cond b (Err NumberTooLarge) (Ok (tok.Number v)))
    at true = refl
    at false = refl
same_fault m j opening = refl
same_fault m j closing = refl
same_fault m j comma = refl
same_fault m j feed = refl
same_fault m j unknown = refl
same_fault m j end = refl
same_fault m j cut = refl

held_rule : (ps : List Part) (m : Mach) → Held ps m → m.state ≡ state.Between → Held (ps ++ (part.RuleLine ∷ [])) (counted_rule m)
unfolding counted_rule
held_rule ps m h e =
    record {
      walk = walk_on (subst (λ (z : State). Walk state.Start ps z) e h.walk) rule_line;
      keeps = subst (λ (z : Sum). Keeps z (counted_rule m)) (sym (sum_on nothing_yet ps part.RuleLine)) (record { size = h.keeps.size; small = h.keeps.small; tally = ap (λ (t : Tally). counted t part.RuleLine) h.keeps.tally; marks = h.keeps.marks });
    }

high_wrong : (b : List Word) {w : Word} {d : ℕ} → Wrong b w d → d ≤ 17
high_wrong b unknown_byte = omega arith
high_wrong b (large_number h) = omega arith
high_wrong b (no_form f) = omega arith
high_wrong b (broken ps p st k) = let h = low_breaks (sum ps) k in omega arith

-- a word other than a line's start
word_first :
    (b : List Word) (i : ℕ) (w : Word) (ws : List Placed) (t : Bool) (lo : ℕ) (f : Fault) → Laid t lo ((i, w) ∷ ws) → is_line w ≡ false → place_of f ≡ i →
    Wrong b w (number_of f) → ((d : ℕ) → Wrong b w d → number_of f ≤ d) → FirstIn b ((i, w) ∷ ws) (place_of f) (number_of f)
word_first b i w ws t lo f l n e x least = (inl (e, x), first)
  where
    beyond : Laid (is_feed w) (i + 1) ws
    beyond = subst (λ (z : Bool). Laid (is_feed w) (cond z i (i + 1)) ws) n l.2

    first : (j d : ℕ) → FaultIn b ((i, w) ∷ ws) j d → (place_of f < j) ⊎ ((place_of f ≡ j) × (number_of f ≤ d))
    first j d (inl y) = inr (e ∙ sym y.0, least d y.1)
    first j d (inr y) = inl (let g = later_places ws (is_feed w) (i + 1) (b ++ (w ∷ [])) j d beyond y in omega (arith, e))

-- the start of a line that is one rule too many
module _ (b : List Word) (i : ℕ) (own : Wrong b line 17) (least : (d : ℕ) → Wrong b line d → 17 ≤ d) where
  surplus_alone :
      (ws : List Placed) → ((j d : ℕ) → FaultIn (b ++ (line ∷ [])) ws j d → i < j) → FirstIn b ((i, line) ∷ ws) i 17
  surplus_alone ws beyond = (inl (refl, own), first)
    where
      first : (j d : ℕ) → FaultIn b ((i, line) ∷ ws) j d → (i < j) ⊎ ((i ≡ j) × (17 ≤ d))
      first j d (inl y) = inr (sym y.0, least d y.1)
      first j d (inr y) = inl (beyond j d y)

  surplus_first :
      (j : ℕ) (v : Word) (ws : List Placed) (o : Option Fault) → Laid false i ((j, v) ∷ ws) → Exact j o (Wrong (b ++ (line ∷ [])) v) →
      FirstIn b ((i, line) ∷ (j, v) ∷ ws) (place_of (or_surplus i o)) (number_of (or_surplus i o))
  surplus_first j v ws o l x = by o x
    where
      not_line : is_line v ≡ false
      not_line = elim (line_or_not v) [ inl e ↦ (let q = l.1 e in clash (cc)) | inr e ↦ e ]

      on_from : Laid (is_feed v) (j + 1) ws
      on_from = subst (λ (z : Bool). Laid (is_feed v) (cond z j (j + 1)) ws) not_line l.2

      further : (q d : ℕ) → FaultIn ((b ++ (line ∷ [])) ++ (v ∷ [])) ws q d → j < q
      further q d y = let g = later_places ws (is_feed v) (j + 1) ((b ++ (line ∷ [])) ++ (v ∷ [])) q d on_from y in omega arith

      by : (o : Option Fault) → Exact j o (Wrong (b ++ (line ∷ [])) v) → FirstIn b ((i, line) ∷ (j, v) ∷ ws) (place_of (or_surplus i o)) (number_of (or_surplus i o))
      by None x = surplus_alone ((j, v) ∷ ws) beyond
        where
          beyond : (q d : ℕ) → FaultIn (b ++ (line ∷ [])) ((j, v) ∷ ws) q d → i < q
          beyond q d (inl y) = absurd (x d y.1)
          beyond q d (inr y) = let g = further q d y in omega (arith, l.0)
      by (Some g) x = at (eqb (place_of g) i) refl
        where
          at : (t : Bool) → eqb (place_of g) i ≡ t → FirstIn b ((i, line) ∷ (j, v) ∷ ws) (place_of (cond t g (file_at RulesCause i))) (number_of (cond t g (file_at RulesCause i)))
          at true e = (inr (inl (x.0, x.1)), first)
            where
              first : (q d : ℕ) → FaultIn b ((i, line) ∷ (j, v) ∷ ws) q d → (place_of g < q) ⊎ ((place_of g ≡ q) × (number_of g ≤ d))
              first q d (inl y) = inr (eqb-true (place_of g) i e ∙ sym y.0, let h = least d y.1 in let k = high_wrong (b ++ (line ∷ [])) x.1 in omega arith)
              first q d (inr (inl y)) = inr (x.0 ∙ sym y.0, x.2 d y.1)
              first q d (inr (inr y)) = inl (let h = further q d y in omega (arith, x.0))
          at false e = surplus_alone ((j, v) ∷ ws) beyond
            where
              apart : i < j
              apart = let n = eqb-false (place_of g) i e in let p = x.0 in lt_of i j l.0 (λ q. n (p ∙ sym q))
                where
                  lt_of : (a c : ℕ) → a ≤ c → (a ≡ c → ⊥) → a < c
                  lt_of a c h k = omega arith

              beyond : (q d : ℕ) → FaultIn (b ++ (line ∷ [])) ((j, v) ∷ ws) q d → i < q
              beyond q d y = let h = later_places ((j, v) ∷ ws) false j (b ++ (line ∷ [])) q d ((omega arith), l.1, l.2) y in omega (arith, apart)

stop_first : (ps : List Part) (m : Mach) (ws : List Placed) (f : Fault) (t : Bool) (lo : ℕ) → Held ps m → Laid t lo ws → (t ≡ true → AtLine m.state) → Stops m ws f → FirstIn (all_written ps) ws (place_of f) (number_of f)
stop_first ps m ws f t lo h l s (at_word {i = i} {w = w} {ws = vs} e n) =
    let x : Exact i (Some f) (Wrong (all_written ps) w) = subst (λ (o : Option Fault). Exact i o (Wrong (all_written ps) w)) e (word_exact ps m h i w) in
    word_first (all_written ps) i w vs t lo f l not_line x.0 x.1 x.2
  where
    not_line : is_line w ≡ false
    not_line = elim (line_or_not w) [ inl q ↦ absurd (n q (line_fault_is m i f m.state refl (s (l.1 q)) (subst (λ (z : Word). word_fault m i z ≡ Some f) q e)).0) | inr q ↦ q ]
stop_first ps m ws f t lo h l s (at_surplus {i = i} {ws = vs} e g) =
    let b : List Word = all_written ps in
    let x : Exact i (Some (file_at RulesCause i)) (Wrong b line) = subst (λ (o : Option Fault). Exact i o (Wrong b line)) e (word_exact ps m h i line) in
    let k = line_fault_is m i (file_at RulesCause i) m.state refl (s (l.1 refl)) e in
    subst (λ (z : Fault). FirstIn b ((i, line) ∷ vs) (place_of z) (number_of z)) (sym g) (by vs l.2 x.1 x.2 (held_rule ps m h k.1))
  where
    by :
        (vs : List Placed) → Laid false i vs → Wrong (all_written ps) line 17 → ((d : ℕ) → Wrong (all_written ps) line d → 17 ≤ d) → Held (ps ++ (part.RuleLine ∷ [])) (counted_rule m) →
        FirstIn (all_written ps) ((i, line) ∷ vs) (place_of (or_surplus i (next_fault (in_rule m) vs))) (number_of (or_surplus i (next_fault (in_rule m) vs)))
    by [] l own least k = surplus_alone (all_written ps) i own least [] (λ j d y. absurd y)
    by (y ∷ vs) l own least k =
        let x = word_exact (ps ++ (part.RuleLine ∷ [])) (counted_rule m) k y.0 y.1 in
        let x₁ : Exact y.0 (word_fault (in_rule m) y.0 y.1) (Wrong (all_written (ps ++ (part.RuleLine ∷ []))) y.1) = subst (λ (o : Option Fault). Exact y.0 o (Wrong (all_written (ps ++ (part.RuleLine ∷ []))) y.1)) (sym (same_fault m y.0 y.1)) x in
        let x₂ : Exact y.0 (word_fault (in_rule m) y.0 y.1) (Wrong (all_written ps ++ (line ∷ [])) y.1) = subst (λ (z : List Word). Exact y.0 (word_fault (in_rule m) y.0 y.1) (Wrong z y.1)) (written_on ps part.RuleLine) x₁ in
        surplus_first (all_written ps) i own least y.0 y.1 vs (word_fault (in_rule m) y.0 y.1) l x₂

-- a word that is taken has no cause
past_taken : (ps : List Part) (m m' : Mach) (i : ℕ) (w : Word) (p : Part) (ws : List Placed) (j c : ℕ) → Right ps m w p m' → FaultIn (all_written ps) ((i, w) ∷ ws) j c → FaultIn (all_written (ps ++ (p ∷ []))) ws j c
past_taken ps m m' i w p ws j c r (inl x) = absurd (r.not_wrong c x.1)
past_taken ps m m' i w p ws j c r (inr x) = subst (λ (z : List Word). FaultIn z ws j c) (sym (written_on ps p ∙ ap (λ (v : Word). all_written ps ++ (v ∷ [])) r.written)) x

before_taken : (ps : List Part) (m m' : Mach) (i : ℕ) (w : Word) (p : Part) (ws : List Placed) (j c : ℕ) → Right ps m w p m' → FaultIn (all_written (ps ++ (p ∷ []))) ws j c → FaultIn (all_written ps) ((i, w) ∷ ws) j c
before_taken ps m m' i w p ws j c r x = inr (subst (λ (z : List Word). FaultIn z ws j c) (written_on ps p ∙ ap (λ (v : Word). all_written ps ++ (v ∷ [])) r.written) x)

pub refused_first : {m : Mach} {ws : List Placed} {f : Fault} → Refuses m ws f → (ps : List Part) (t : Bool) (lo : ℕ) → Held ps m → Laid t lo ws → (t ≡ true → AtLine m.state) → FirstIn (all_written ps) ws (place_of f) (number_of f)
refused_first {m} {ws} {f} (stops s) ps t lo h l a = stop_first ps m ws f t lo h l a s
refused_first {f = f} (later {m = m} {m' = m'} {i = i} {w = w} {p = p} {ws = ws} x e k) ps t lo h l a =
    let r = takes_right ps m m' w p h x in
    let y = refused_first k (ps ++ (p ∷ [])) (is_feed w) (cond (is_line w) i (i + 1)) r.held l.2 (λ q. feed_step r.step (r.written ∙ feed_word w q)) in
    (before_taken ps m m' i w p ws (place_of f) (number_of f) r y.0, λ j d z. y.1 j d (past_taken ps m m' i w p ws j d r z))
