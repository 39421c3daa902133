-- What the machine holds of the parts that it has taken, and so what it finds wrong with the next word.
use Rattle.std.proofs.Common.{◌≡◌, ℕ, zero, suc, ◌<◌, ◌≤◌, Bool, true, false, cond, eqb, ltb, leb, ◌≢◌, ◌⊎◌, List, [], ◌∷◌, ◌++◌, length, get_or, set, replicate, Some, None, Ok, Err, Option, Result, sym, refl, ap, ◌∙◌, subst, inl, inr, arith, length-set, get_or-set_other, get_or-set_same, ltb-false, ltb-true, lt-ltb, eq-eqb, eqb-true, le-leb, leb-true}
use lib.ListN.{length-replicate}
use borrow.Author.Tests.{eqb-false}
use Rattle.scan.specs.declared.ScanCause.{ScanCause}
use Rattle.scan.specs.declared.ScanCause.TheVariants.{UnknownByte, NumberTooLarge}
use Rattle.scan.specs.declared.Token.{Token}
use Rattle.scan.specs.declared.Token.TheVariants as tok
use Rattle.scan.specs.Scans.{word_of}
use Rattle.scan.specs.Words.{Word, line, header, stray, number, opening, closing, comma, feed, unknown, end, cut}
use Rattle.rule_file.specs.declared.fault.Fault.{Fault}
use Rattle.rule_file.specs.declared.fault.Fault.TheVariants.{Line as InLine}
use Rattle.rule_file.specs.declared.fault.FileCause.{FileCause}
use Rattle.rule_file.specs.declared.fault.FileCause.TheVariants.{Limit, Rules as RulesCause}
use Rattle.rule_file.specs.declared.fault.LineCause.TheVariants.{Choice as ChoiceCause, Repeated}
use Rattle.rule_file.specs.declared.fault.LineFault.TheVariants.{Scan}
use Rattle.rule_file.specs.declared.file.Tally.{Tally}
use Rattle.rule_file.specs.declared.line.Part.{Part}
use Rattle.rule_file.specs.declared.line.Part.TheVariants as part
use Rattle.rule_file.specs.declared.line.State.{State}
use Rattle.rule_file.specs.declared.line.State.TheVariants as state
use Rattle.rule_file.specs.Causes.{Stands, Sum, nothing_yet, adding, adding_all, sum, Breaks, no_item, no_member, repeated, large_size, many_rules, many_counts, many_items, many_members, surplus_rule, missing_rule, Wrong, unknown_byte, large_number, no_form, broken}
use Rattle.rule_file.specs.Faults.{file_at, told, place_of}
use Rattle.rule_file.specs.Form.{written_as, all_written, Occurs}
use Rattle.rule_file.specs.Machine.{Mach, start_mach, scanned, Takes, by_limits, by_form, by_scan, word_fault}
use Rattle.rule_file.specs.Reader.{Taken, plays, no_choice, line_fault, size_after, none_seen, seen_after, file_fault, counted}
use Rattle.rule_file.proofs.Walks.{Step, Walk, here, walk_on, last_step, walk_begins, begins_walk, walk_once, step_plays, step_once, plays_step, token_of}
use Rattle.rule_file.proofs.Callers.{no_fault}
use Rattle.rule_file.proofs.Clash.{clash}

-- the tally of a sum
abbrev tally_of : Sum → Tally
tally_of s = record { declared = s.declared; rules = s.rules; counts = s.counts; entries = s.entries }

tally_on : (s : Sum) (p : Part) → tally_of (adding s p) ≡ counted (tally_of s) p
tally_on s part.HeaderLine = refl
tally_on s part.Header = refl
tally_on s (part.Size n) = refl
tally_on s (part.Rules m) = refl
tally_on s part.HeaderEnd = refl
tally_on s part.RuleLine = refl
tally_on s (part.Choice c) = refl
tally_on s part.CountOpen = refl
tally_on s (part.Lower k) = refl
tally_on s (part.Upper m) = refl
tally_on s (part.Member c) = refl
tally_on s part.CountClose = refl
tally_on s part.Comma = refl
tally_on s part.RuleEnd = refl
tally_on s part.End = refl

-- the choices that are marked as seen are those that the count has had
pub record Marks (seen : List Bool) (had : List ℕ) : Type 0 where
  pub room : length seen ≡ 4097
  pub only : (v : ℕ) → v ≤ 4096 → get_or seen v false ≡ true → Occurs v had
  pub each : (v : ℕ) → Occurs v had → get_or seen v false ≡ true

all_false : (n v : ℕ) → get_or (replicate n false) v false ≡ false
all_false zero v = refl
all_false (suc n) zero = refl
all_false (suc n) (suc v) = all_false n v

marks_none : Marks none_seen []
unfolding none_seen
marks_none = record { room = length-replicate {A = Bool} 4097 false; only = λ v h e. let g = all_false 4097 v in clash (cc); each = λ v x. absurd x }

same_or_not : (u v : ℕ) → (u ≡ v) ⊎ (u ≢ v)
same_or_not u v = at (eqb u v) refl
  where
    at : (b : Bool) → eqb u v ≡ b → (u ≡ v) ⊎ (u ≢ v)
    at true e = inl (eqb-true u v e)
    at false e = inr (eqb-false u v e)

marks_member : (seen : List Bool) (had : List ℕ) (v : ℕ) → v ≤ 4096 → Marks seen had → Marks (set seen v true) (v ∷ had)
marks_member seen had v h k = record { room = length-set seen v true ∙ k.room; only = only_at; each = each_at }
  where
    lt : v < length seen
    lt = omega (arith, k.room)

    only_at : (u : ℕ) → u ≤ 4096 → get_or (set seen v true) u false ≡ true → Occurs u (v ∷ had)
    only_at u l e = elim (same_or_not u v) [ inl q ↦ inl q | inr n ↦ inr (k.only u l (sym (get_or-set_other seen v u true false n) ∙ e)) ]

    each_at : (u : ℕ) → Occurs u (v ∷ had) → get_or (set seen v true) u false ≡ true
    each_at u o =
        elim (same_or_not u v) [
          | inl q ↦ ap (λ (z : ℕ). get_or (set seen v true) z false) q ∙ get_or-set_same seen v true false lt
          | inr n ↦ elim o [ inl q ↦ absurd (n q) | inr x ↦ get_or-set_other seen v u true false n ∙ k.each u x ]
        ]

-- what a machine holds of parts that add up to s
pub record Keeps (s : Sum) (m : Mach) : Type 0 where
  pub size : s.size ≡ m.size
  pub small : m.size ≤ 4096
  pub tally : tally_of s ≡ m.tally
  pub marks : Marks m.seen s.had

-- what a right choice tells
none_true : (n v : ℕ) → no_choice n v ≡ true → (v ≡ 0) ⊎ (n < v)
none_true n v e = at (eqb v 0) refl e
  where
    at : (b : Bool) → eqb v 0 ≡ b → cond b true (ltb n v) ≡ true → (v ≡ 0) ⊎ (n < v)
    at true q e = inl (eqb-true v 0 q)
    at false q e = inr (ltb-true n v e)

none_so : (n v : ℕ) → (v ≡ 0) ⊎ (n < v) → no_choice n v ≡ true
none_so n v (inl e) = rw (eq-eqb v 0 e)
none_so n v (inr h) = rw (lt-ltb n v h) (at (eqb v 0))
  where
    at : (b : Bool) → cond b true true ≡ true
    at true = refl
    at false = refl

none_false : (n v : ℕ) → no_choice n v ≡ false → v ≤ n
none_false n v e = at (eqb v 0) e
  where
    at : (b : Bool) → cond b true (ltb n v) ≡ false → v ≤ n
    at true e = clash (cc)
    at false e = ltb-false n v e

member_right : (n : ℕ) (seen : List Bool) (v : ℕ) → line_fault n seen (part.Member v) ≡ None → v ≤ n
member_right n seen v e = at (no_choice n v) refl e
  where
    at : (b : Bool) → no_choice n v ≡ b → cond b (Some ChoiceCause) (cond (get_or seen v false) (Some Repeated) None) ≡ None → v ≤ n
    at true q e = clash (cc)
    at false q e = none_false n v q

size_on : (s : Sum) (n : ℕ) (t : Tally) (p : Part) → s.size ≡ n → file_fault t p ≡ None → (adding s p).size ≡ size_after n p
size_on s n t part.HeaderLine e f = e
size_on s n t part.Header e f = e
size_on s n t (part.Size v) e f = at (ltb 4096 v) f
  where
    at : (b : Bool) → cond b (Some Limit) None ≡ None → v ≡ cond b n v
    at true f = clash (cc)
    at false f = refl
size_on s n t (part.Rules m) e f = e
size_on s n t part.HeaderEnd e f = e
size_on s n t part.RuleLine e f = e
size_on s n t (part.Choice c) e f = e
size_on s n t part.CountOpen e f = e
size_on s n t (part.Lower k) e f = e
size_on s n t (part.Upper m) e f = e
size_on s n t (part.Member c) e f = e
size_on s n t part.CountClose e f = e
size_on s n t part.Comma e f = e
size_on s n t part.RuleEnd e f = e
size_on s n t part.End e f = e

size_small : (n : ℕ) (p : Part) → n ≤ 4096 → size_after n p ≤ 4096
size_small n part.HeaderLine h = h
size_small n part.Header h = h
size_small n (part.Size v) h = at (ltb 4096 v) refl
  where
    at : (b : Bool) → ltb 4096 v ≡ b → cond b n v ≤ 4096
    at true e = h
    at false e = ltb-false 4096 v e
size_small n (part.Rules m) h = h
size_small n part.HeaderEnd h = h
size_small n part.RuleLine h = h
size_small n (part.Choice c) h = h
size_small n part.CountOpen h = h
size_small n (part.Lower k) h = h
size_small n (part.Upper m) h = h
size_small n (part.Member c) h = h
size_small n part.CountClose h = h
size_small n part.Comma h = h
size_small n part.RuleEnd h = h
size_small n part.End h = h

marks_on : (s : Sum) (n : ℕ) (seen : List Bool) (p : Part) → n ≤ 4096 → line_fault n seen p ≡ None → Marks seen s.had → Marks (seen_after seen p) (adding s p).had
marks_on s n seen part.HeaderLine h e k = k
marks_on s n seen part.Header h e k = k
marks_on s n seen (part.Size v) h e k = k
marks_on s n seen (part.Rules m) h e k = k
marks_on s n seen part.HeaderEnd h e k = k
marks_on s n seen part.RuleLine h e k = k
marks_on s n seen (part.Choice c) h e k = k
marks_on s n seen part.CountOpen h e k = marks_none
marks_on s n seen (part.Lower v) h e k = k
marks_on s n seen (part.Upper v) h e k = k
marks_on s n seen (part.Member c) h e k = marks_member seen s.had c (let g = member_right n seen c e in omega arith) k
marks_on s n seen part.CountClose h e k = k
marks_on s n seen part.Comma h e k = k
marks_on s n seen part.RuleEnd h e k = k
marks_on s n seen part.End h e k = k

keeps_on : (s : Sum) (m m' : Mach) (w : Word) (p : Part) → Keeps s m → Takes m w p m' → Keeps (adding s p) m'
keeps_on s m m' w p k t =
    record {
      size = size_on s m.size m.tally p k.size t.room ∙ sym t.size;
      small = let h = size_small m.size p k.small in omega (arith, t.size);
      tally = tally_on s p ∙ ap (λ (z : Tally). counted z p) k.tally ∙ sym t.tally;
      marks = subst (λ (z : List Bool). Marks z (adding s p).had) (sym t.seen) (marks_on s m.size m.seen p k.small t.right k.marks);
    }

-- A fault that is told is the least of its kind, and none is told only where there is none.
abbrev pub number_of : Fault → ℕ
number_of f = (told f).number

abbrev pub Exact : ℕ → Option Fault → (ℕ → Type 0) → Type 0
Exact i (Some f) B = (place_of f ≡ i) × B (number_of f) × ((d : ℕ) → B d → number_of f ≤ d)
Exact i None B = (d : ℕ) → B d → ⊥

exact_as : (i : ℕ) (o : Option Fault) (B C : ℕ → Type 0) → ((d : ℕ) → B d → C d) → ((d : ℕ) → C d → B d) → Exact i o B → Exact i o C
exact_as i (Some f) B C g h x = (x.0, g (number_of f) x.1, λ d c. x.2 d (h d c))
exact_as i None B C g h x = λ d c. x d (h d c)

-- one test
abbrev One : Bool → ℕ → ℕ → Type 0
One b n d = (d ≡ n) × (b ≡ true)

exact_one : (i : ℕ) (b : Bool) (c : FileCause) (B : ℕ → Type 0) → (b ≡ true → B (number_of (file_at c i))) → ((d : ℕ) → B d → One b (number_of (file_at c i)) d) → Exact i (by_limits i None (cond b (Some c) None)) B
exact_one i true c B y z = (refl, y refl, λ d x. let q = (z d x).0 in omega arith)
exact_one i false c B y z = λ d x. let q = (z d x).1 in clash (cc)

-- the tests of an entry, in the order of their numbers
abbrev Three : Bool → Bool → Bool → ℕ → Type 0
Three a r e d = One a 14 d ⊎ (One r 15 d ⊎ One e 16 d)

exact_three :
    (i : ℕ) (a r e : Bool) (B : ℕ → Type 0) → (a ≡ true → B 14) → (a ≡ false → r ≡ true → B 15) → (e ≡ true → B 16) → ((d : ℕ) → B d → Three a r e d) →
    Exact i (by_limits i (cond a (Some ChoiceCause) (cond r (Some Repeated) None)) (cond e (Some Limit) None)) B
exact_three i true r e B x y z k = (refl, x refl, λ d u. least d (k d u))
  where
    least : (d : ℕ) → Three true r e d → 14 ≤ d
    least d (inl u) = let q = u.0 in omega arith
    least d (inr (inl u)) = let q = u.0 in omega arith
    least d (inr (inr u)) = let q = u.0 in omega arith
exact_three i false true e B x y z k = (refl, y refl refl, λ d u. least d (k d u))
  where
    least : (d : ℕ) → Three false true e d → 15 ≤ d
    least d (inl u) = let q = u.1 in clash (cc)
    least d (inr (inl u)) = let q = u.0 in omega arith
    least d (inr (inr u)) = let q = u.0 in omega arith
exact_three i false false true B x y z k = (refl, z refl, λ d u. least d (k d u))
  where
    least : (d : ℕ) → Three false false true d → 16 ≤ d
    least d (inl u) = let q = u.1 in clash (cc)
    least d (inr (inl u)) = let q = u.1 in clash (cc)
    least d (inr (inr u)) = let q = u.0 in omega arith
exact_three i false false false B x y z k = λ d u. none d (k d u)
  where
    none : (d : ℕ) → Three false false false d → ⊥
    none d (inl u) = let q = u.1 in clash (cc)
    none d (inr (inl u)) = let q = u.1 in clash (cc)
    none d (inr (inr u)) = let q = u.1 in clash (cc)

-- parts that break nothing
abbrev Harmless : Part → Type 0
Harmless part.HeaderLine = Unit {0}
Harmless part.Header = Unit {0}
Harmless (part.Size n) = ⊥
Harmless (part.Rules m) = ⊥
Harmless part.HeaderEnd = Unit {0}
Harmless part.RuleLine = ⊥
Harmless (part.Choice c) = ⊥
Harmless part.CountOpen = ⊥
Harmless (part.Lower k) = Unit {0}
Harmless (part.Upper m) = Unit {0}
Harmless (part.Member c) = ⊥
Harmless part.CountClose = Unit {0}
Harmless part.Comma = Unit {0}
Harmless part.RuleEnd = Unit {0}
Harmless part.End = ⊥

pub harmless : (s : Sum) {p : Part} {d : ℕ} → Breaks s p d → Harmless p → ⊥
harmless s (no_item h) x = x
harmless s (no_member h) x = x
harmless s (repeated h) x = x
harmless s (large_size h) x = x
harmless s (many_rules h) x = x
harmless s (many_counts h) x = x
harmless s (many_items h) x = x
harmless s (many_members h) x = x
harmless s (surplus_rule h) x = x
harmless s (missing_rule h) x = x

pub low_breaks : (s : Sum) {p : Part} {d : ℕ} → Breaks s p d → (14 ≤ d) × (d ≤ 17)
low_breaks s (no_item h) = (omega arith, omega arith)
low_breaks s (no_member h) = (omega arith, omega arith)
low_breaks s (repeated h) = (omega arith, omega arith)
low_breaks s (large_size h) = (omega arith, omega arith)
low_breaks s (many_rules h) = (omega arith, omega arith)
low_breaks s (many_counts h) = (omega arith, omega arith)
low_breaks s (many_items h) = (omega arith, omega arith)
low_breaks s (many_members h) = (omega arith, omega arith)
low_breaks s (surplus_rule h) = (omega arith, omega arith)
low_breaks s (missing_rule h) = (omega arith, omega arith)

-- what the machine finds wrong with a part is what the part breaks, the smallest number first
module _ (s : Sum) (m : Mach) (k : Keeps s m) (i : ℕ) where
  declared_is : s.declared ≡ m.tally.declared
  declared_is = ap (λ (t : Tally). t.declared) k.tally

  rules_is : s.rules ≡ m.tally.rules
  rules_is = ap (λ (t : Tally). t.rules) k.tally

  counts_is : s.counts ≡ m.tally.counts
  counts_is = ap (λ (t : Tally). t.counts) k.tally

  entries_is : s.entries ≡ m.tally.entries
  entries_is = ap (λ (t : Tally). t.entries) k.tally

  none_here : (v : ℕ) → no_choice m.size v ≡ true → (v ≡ 0) ⊎ (s.size < v)
  none_here v e = elim (none_true m.size v e) [ inl q ↦ inl q | inr h ↦ inr (omega (arith, k.size)) ]

  none_there : (v : ℕ) → (v ≡ 0) ⊎ (s.size < v) → no_choice m.size v ≡ true
  none_there v (inl e) = none_so m.size v (inl e)
  none_there v (inr h) = none_so m.size v (inr (omega (arith, k.size)))

  many_here : leb 16384 m.tally.entries ≡ true → 16384 ≤ s.entries
  many_here e = let h = leb-true 16384 m.tally.entries e in omega (arith, entries_is)

  many_there : 16384 ≤ s.entries → leb 16384 m.tally.entries ≡ true
  many_there h = le-leb 16384 m.tally.entries (omega (arith, entries_is))

  size_says : (v d : ℕ) → Breaks s (part.Size v) d → One (ltb 4096 v) 16 d
  size_says v d (large_size h) = (refl, lt-ltb 4096 v h)

  rules_says : (v d : ℕ) → Breaks s (part.Rules v) d → One (ltb 2048 v) 16 d
  rules_says v d (many_rules h) = (refl, lt-ltb 2048 v h)

  line_says : (d : ℕ) → Breaks s part.RuleLine d → One (leb m.tally.declared m.tally.rules) 17 d
  line_says d (surplus_rule h) = (refl, le-leb m.tally.declared m.tally.rules (omega (arith, declared_is, rules_is)))

  count_says : (d : ℕ) → Breaks s part.CountOpen d → One (leb 1024 m.tally.counts) 16 d
  count_says d (many_counts h) = (refl, le-leb 1024 m.tally.counts (omega (arith, counts_is)))

  end_says : (d : ℕ) → Breaks s part.End d → One (ltb m.tally.rules m.tally.declared) 17 d
  end_says d (missing_rule h) = (refl, lt-ltb m.tally.rules m.tally.declared (omega (arith, declared_is, rules_is)))

  item_says : (v d : ℕ) → Breaks s (part.Choice v) d → Three (no_choice m.size v) false (leb 16384 m.tally.entries) d
  item_says v d (no_item h) = inl (refl, none_there v h)
  item_says v d (many_items h) = inr (inr (refl, many_there h))

  member_says : (v d : ℕ) → Breaks s (part.Member v) d → Three (no_choice m.size v) (get_or m.seen v false) (leb 16384 m.tally.entries) d
  member_says v d (no_member h) = inl (refl, none_there v h)
  member_says v d (repeated h) = inr (inl (refl, k.marks.each v h))
  member_says v d (many_members h) = inr (inr (refl, many_there h))

  exact : (p : Part) → Exact i (by_limits i (line_fault m.size m.seen p) (file_fault m.tally p)) (Breaks s p)
  exact part.HeaderLine = λ d x. harmless s x tt
  exact part.Header = λ d x. harmless s x tt
  exact (part.Size v) = exact_one i (ltb 4096 v) Limit (Breaks s (part.Size v)) (λ e. large_size (ltb-true 4096 v e)) (size_says v)
  exact (part.Rules v) = exact_one i (ltb 2048 v) Limit (Breaks s (part.Rules v)) (λ e. many_rules (ltb-true 2048 v e)) (rules_says v)
  exact part.HeaderEnd = λ d x. harmless s x tt
  exact part.RuleLine =
      exact_one i (leb m.tally.declared m.tally.rules) RulesCause (Breaks s part.RuleLine)
      (λ e. let h = leb-true m.tally.declared m.tally.rules e in surplus_rule (omega (arith, declared_is, rules_is))) line_says
  exact (part.Choice v) =
      exact_three i (no_choice m.size v) false (leb 16384 m.tally.entries) (Breaks s (part.Choice v))
      (λ e. no_item (none_here v e)) (λ e f. clash (cc)) (λ e. many_items (many_here e)) (item_says v)
  exact part.CountOpen =
      exact_one i (leb 1024 m.tally.counts) Limit (Breaks s part.CountOpen)
      (λ e. let h = leb-true 1024 m.tally.counts e in many_counts (omega (arith, counts_is))) count_says
  exact (part.Lower v) = λ d x. harmless s x tt
  exact (part.Upper v) = λ d x. harmless s x tt
  exact (part.Member v) =
      exact_three i (no_choice m.size v) (get_or m.seen v false) (leb 16384 m.tally.entries) (Breaks s (part.Member v))
      (λ e. no_member (none_here v e))
      (λ a e. repeated (k.marks.only v (let h = none_false m.size v a in let g = k.small in omega arith) e))
      (λ e. many_members (many_here e)) (member_says v)
  exact part.CountClose = λ d x. harmless s x tt
  exact part.Comma = λ d x. harmless s x tt
  exact part.RuleEnd = λ d x. harmless s x tt
  exact part.End =
      exact_one i (ltb m.tally.rules m.tally.declared) RulesCause (Breaks s part.End)
      (λ e. let h = ltb-true m.tally.rules m.tally.declared e in missing_rule (omega (arith, declared_is, rules_is))) end_says

-- A word after parts: the machine has taken these, and stands where the form is after them.
pub record Held (ps : List Part) (m : Mach) : Type 0 where
  pub walk : Walk state.Start ps m.state
  pub keeps : Keeps (sum ps) m

pub held_start : Held [] start_mach
held_start = record { walk = here state.Start; keeps = record { size = refl; small = omega arith; tally = refl; marks = marks_none } }

pub sum_on : (s : Sum) (ps : List Part) (p : Part) → adding_all s (ps ++ (p ∷ [])) ≡ adding (adding_all s ps) p
sum_on s [] p = refl
sum_on s (q ∷ ps) p = sum_on (adding s q) ps p

pub written_on : (ps : List Part) (p : Part) → all_written (ps ++ (p ∷ [])) ≡ all_written ps ++ (written_as p ∷ [])
written_on [] p = refl
written_on (q ∷ ps) p = ap (λ (z : List Word). written_as q ∷ z) (written_on ps p)

scanned_word : (w : Word) (t : Token) → scanned w ≡ Ok t → word_of t ≡ w
scanned_word line t e = let q : tok.Line ≡ t = cc in ap word_of (sym q)
scanned_word header t e = let q : tok.Header ≡ t = cc in ap word_of (sym q)
scanned_word stray t e = let q : tok.Stray ≡ t = cc in ap word_of (sym q)
scanned_word (number v) t e = at (ltb 65535 v) e
  where
    at : (b : Bool) → cond b (Err NumberTooLarge) (Ok (tok.Number v)) ≡ Ok t → word_of t ≡ number v
    at true e = clash (cc)
    at false e = let q : tok.Number v ≡ t = cc in ap word_of (sym q)
scanned_word opening t e = let q : tok.Open ≡ t = cc in ap word_of (sym q)
scanned_word closing t e = let q : tok.Close ≡ t = cc in ap word_of (sym q)
scanned_word comma t e = let q : tok.Comma ≡ t = cc in ap word_of (sym q)
scanned_word feed t e = let q : tok.Feed ≡ t = cc in ap word_of (sym q)
scanned_word unknown t e = clash (cc)
scanned_word end t e = let q : tok.End ≡ t = cc in ap word_of (sym q)
scanned_word cut t e = let q : tok.Cut ≡ t = cc in ap word_of (sym q)

token_word : (t : Token) → token_of (word_of t) ≡ t
token_word tok.Line = refl
token_word tok.End = refl
token_word (tok.Number v) = refl
token_word tok.Open = refl
token_word tok.Close = refl
token_word tok.Comma = refl
token_word tok.Header = refl
token_word tok.Stray = refl
token_word tok.Feed = refl
token_word tok.Cut = refl

-- the numbers of a word's causes
low_wrong : (b : List Word) {w : Word} {d : ℕ} → Wrong b w d → 11 ≤ d
low_wrong b unknown_byte = omega arith
low_wrong b (large_number h) = omega arith
low_wrong b (no_form f) = omega arith
low_wrong b (broken ps p st k) = let h = low_breaks (sum ps) k in omega arith

low_number : (b : List Word) (v : ℕ) {d : ℕ} → Wrong b (number v) d → 12 ≤ d
low_number b v (large_number h) = omega arith
low_number b v (no_form f) = omega arith
low_number b v (broken ps p st k) = let h = low_breaks (sum ps) k in omega arith

large_scanned : (v : ℕ) (t : Token) → 65535 < v → scanned (number v) ≡ Ok t → ⊥
large_scanned v t h e = let q : Err NumberTooLarge ≡ Ok t = rw (lt-ltb 65535 v h) at e in clash (cc)

low_scanned : (b : List Word) (t : Token) {w : Word} {d : ℕ} → Wrong b w d → scanned w ≡ Ok t → 13 ≤ d
low_scanned b t unknown_byte e = clash (cc)
low_scanned b t (large_number {v} h) e = absurd (large_scanned v t h e)
low_scanned b t (no_form f) e = omega arith
low_scanned b t (broken ps p st k) e = let h = low_breaks (sum ps) k in omega arith

-- the causes of a word that has no token
exact_scan : (b : List Word) (i : ℕ) (w : Word) (c : ScanCause) → scanned w ≡ Err c → Exact i (Some (InLine (Scan (record { cause = c; place = i })))) (Wrong b w)
exact_scan b i line c e = clash (cc)
exact_scan b i header c e = clash (cc)
exact_scan b i stray c e = clash (cc)
exact_scan b i (number v) c e = at (ltb 65535 v) refl e
  where
    of_cause : (c : ScanCause) → NumberTooLarge ≡ c → 65535 < v → Exact i (Some (InLine (Scan (record { cause = c; place = i })))) (Wrong b (number v))
    of_cause UnknownByte q h = clash (cc)
    of_cause NumberTooLarge q h = (refl, large_number h, λ d x. low_number b v x)

    at : (t : Bool) → ltb 65535 v ≡ t → cond t (Err NumberTooLarge) (Ok (tok.Number v)) ≡ Err c → Exact i (Some (InLine (Scan (record { cause = c; place = i })))) (Wrong b (number v))
    at true q e = let g : NumberTooLarge ≡ c = cc in of_cause c g (ltb-true 65535 v q)
    at false q e = clash (cc)
exact_scan b i opening c e = clash (cc)
exact_scan b i closing c e = clash (cc)
exact_scan b i comma c e = clash (cc)
exact_scan b i feed c e = clash (cc)
exact_scan b i unknown c e = let g : UnknownByte ≡ c = cc in of_cause c g
  where
    of_cause : (c : ScanCause) → UnknownByte ≡ c → Exact i (Some (InLine (Scan (record { cause = c; place = i })))) (Wrong b unknown)
    of_cause UnknownByte q = (refl, unknown_byte, λ d x. low_wrong b x)
    of_cause NumberTooLarge q = clash (cc)
exact_scan b i end c e = clash (cc)
exact_scan b i cut c e = clash (cc)

module _ (ps : List Part) (s : State) (walk : Walk state.Start ps s) where
  -- the part that a word stands for is what the state takes it as
  stood : {w : Word} {qs : List Part} {q : Part} → Stands (all_written ps) w qs q → (u : State) × (qs ≡ ps) × Step s q u
  stood {w} {qs} {q} x =
      let b = begins_walk (qs ++ (q ∷ [])) x.begins in
      let l = last_step qs b.1 in
      let o = walk_once l.1 walk x.behind in
      (b.0, o.0, subst (λ (z : State). Step z q b.0) o.1 l.2)

  stands : {w : Word} {p : Part} {u : State} → Step s p u → written_as p ≡ w → Stands (all_written ps) w ps p
  stands x e = record { behind = refl; here = e; begins = walk_begins (walk_on walk x) }

  -- where a part is taken, what is wrong with its word is what it breaks
  pub only_breaks : (p : Part) (u : State) (t : Token) {w : Word} {d : ℕ} → Step s p u → written_as p ≡ w → scanned w ≡ Ok t → Wrong (all_written ps) w d → Breaks (sum ps) p d
  only_breaks p u t x e c unknown_byte = clash (cc)
  only_breaks p u t x e c (large_number {v} h) = absurd (large_scanned v t h c)
  only_breaks p u t x e c (no_form f) = absurd (f ps p (stands x e))
  only_breaks p u t x e c (broken {c = d} qs q st b) =
      let k = stood st in
      let j = step_once k.2 x (st.here ∙ sym e) in
      let b₁ : Breaks (sum ps) q d = subst (λ (z : List Part). Breaks (sum z) q d) k.1 b in
      subst (λ (z : Part). Breaks (sum ps) z d) j.0 b₁

module _ (ps : List Part) (m : Mach) (h : Held ps m) (i : ℕ) (w : Word) where
  -- what the machine finds wrong with a word is what is wrong with it, the smallest number first
  pub word_exact : Exact i (word_fault m i w) (Wrong (all_written ps) w)
  word_exact = by_scanned (scanned w) refl
    where
      played : (t : Token) → scanned w ≡ Ok t → (o : Taken) → plays m.state t ≡ o → Exact i (by_form m i o) (Wrong (all_written ps) w)
      played t c None e = (
        refl,
        no_form (λ qs q x.
            let k = stood ps m.state h.walk x in
            let g = step_plays k.2 in
            let v : token_of (written_as q) ≡ t = ap token_of (x.here ∙ sym (scanned_word w t c)) ∙ token_word t in
            let z : plays m.state t ≡ Some (q, k.0) = subst (λ (y : Token). plays m.state y ≡ Some (q, k.0)) v g in
            clash (cc)),
        λ d x. low_scanned (all_written ps) t x c,
      )
      played t c (Some (p, u)) e =
          let f = plays_step m.state t p u e in
          let g : written_as p ≡ w = f.1 ∙ scanned_word w t c in
          exact_as i (by_limits i (line_fault m.size m.seen p) (file_fault m.tally p)) (Breaks (sum ps) p) (Wrong (all_written ps) w)
          (λ d b. broken ps p (stands ps m.state h.walk f.0 g) b)
          (λ d x. only_breaks ps m.state h.walk p u t f.0 g c x)
          (exact (sum ps) m h.keeps i p)

      by_scanned : (r : Result Token ScanCause) → scanned w ≡ r → Exact i (by_scan m i r) (Wrong (all_written ps) w)
      by_scanned (Ok t) e = played t e (plays m.state t) refl
      by_scanned (Err c) e = exact_scan (all_written ps) i w c e

-- a word that is taken
pub record Right (ps : List Part) (m : Mach) (w : Word) (p : Part) (m' : Mach) : Type 0 where
  pub step : Step m.state p m'.state
  pub written : written_as p ≡ w
  pub held : Held (ps ++ (p ∷ [])) m'
  pub unbroken : (d : ℕ) → Breaks (sum ps) p d → ⊥
  pub not_wrong : (d : ℕ) → Wrong (all_written ps) w d → ⊥

pub takes_right : (ps : List Part) (m m' : Mach) (w : Word) (p : Part) → Held ps m → Takes m w p m' → Right ps m w p m'
takes_right ps m m' w p h t =
    let f = plays_step m.state t.token p m'.state t.played in
    let e : written_as p ≡ w = f.1 ∙ scanned_word w t.token t.scans in
    let n : (d : ℕ) → Wrong (all_written ps) w d → ⊥ = subst (λ (o : Option Fault). Exact 0 o (Wrong (all_written ps) w)) (no_fault m m' 0 w p t) (word_exact ps m h 0 w) in
    record {
      step = f.0;
      written = e;
      held = record { walk = walk_on h.walk f.0; keeps = subst (λ (z : Sum). Keeps z m') (sym (sum_on nothing_yet ps p)) (keeps_on (sum ps) m m' w p h.keeps t) };
      unbroken = λ d b. n d (broken ps p (stands ps m.state h.walk f.0 e) b);
      not_wrong = n;
    }
