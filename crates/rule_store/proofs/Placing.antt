-- Where the entries and rows of a file's rules stand once its parts are put into the storage.
use Rattle.std.proofs.Common.{◌≡◌, ℕ, suc, ◌+◌, List, [], ◌∷◌, ◌++◌, length, set, sym, refl, ap, ◌∙◌, subst, append_assoc, add-zero, add-suc, suc-add, add-one, arith, length-append}
use lib.Seq.{sets}
use Rattle.rules.specs.declared.CountRow.{CountRow}
use Rattle.rules.specs.declared.RuleRow.{RuleRow}
use Rattle.rules.specs.Rules.{Item, choice, count, Rule}
use Rattle.rule_file.specs.declared.file.Tally.{Tally}
use Rattle.rule_file.specs.declared.line.Part.{Part}
use Rattle.rule_file.specs.declared.line.Part.TheVariants as part
use Rattle.rule_file.specs.Form.{member_parts, items_parts, rules_parts}
use Rattle.rule_store.specs.Filling.{Store, put_part, fills, side_from, side_to, rule_to}

-- the entries of items, and the rows of their counts, where their first entry stands at e
abbrev pub flat : List Item → List ℕ
flat [] = []
flat (choice c ∷ is) = c ∷ flat is
flat (count k m cs ∷ is) = cs ++ flat is

abbrev pub count_row : ℕ → ℕ → ℕ → List ℕ → CountRow
count_row e k m cs = record { lower = k; upper = m; choices = record { start = e; end = e + length cs } }

abbrev pub count_rows : ℕ → List Item → List CountRow
count_rows e [] = []
count_rows e (choice c ∷ is) = count_rows (e + 1) is
count_rows e (count k m cs ∷ is) = count_row e k m cs ∷ count_rows (e + length cs) is

pub sets_append : {A : Type 0} (xs ys l : List A) (i : ℕ) → sets l i (xs ++ ys) ≡ sets (sets l i xs) (i + length xs) ys
sets_append [] ys l i = ap (λ (k : ℕ). sets l k ys) (sym (add-zero i))
sets_append (x ∷ xs) ys l i =
    sets_append xs ys (set l i x) (suc i) ∙ ap (λ (k : ℕ). sets (sets (set l i x) (suc i) xs) k ys) (suc-add i (length xs) ∙ sym (add-suc i (length xs)))

-- Entries xs and count rows cs, with the next places e and c, after ys and ds are put in.
pub record Laid (xs : List ℕ) (e : ℕ) (cs : List CountRow) (c : ℕ) (xs' : List ℕ) (e' : ℕ) (cs' : List CountRow) (c' : ℕ) (ys : List ℕ) (ds : List CountRow) : Type 0 where
  pub entries : xs' ≡ sets xs e ys
  pub counts : cs' ≡ sets cs c ds
  pub entry_at : e' ≡ e + length ys
  pub count_from : c' ≡ c + length ds

abbrev pub LaidIn : Store → Store → List ℕ → List CountRow → Type 0
LaidIn s s' ys ds = Laid s.entries s.tally.entries s.counts s.tally.counts s'.entries s'.tally.entries s'.counts s'.tally.counts ys ds

pub laid_none : (s : Store) → LaidIn s s [] []
laid_none s = record { entries = refl; counts = refl; entry_at = sym (add-zero s.tally.entries); count_from = sym (add-zero s.tally.counts) }

pub laid_both : (s s' s'' : Store) (ys zs : List ℕ) (ds fs : List CountRow) → LaidIn s s' ys ds → LaidIn s' s'' zs fs → LaidIn s s'' (ys ++ zs) (ds ++ fs)
laid_both s s' s'' ys zs ds fs p q =
    record {
      entries =
          q.entries ∙ ap (λ (l : List ℕ). sets l s'.tally.entries zs) p.entries ∙
          ap (λ (k : ℕ). sets (sets s.entries s.tally.entries ys) k zs) p.entry_at ∙ sym (sets_append ys zs s.entries s.tally.entries);
      counts =
          q.counts ∙ ap (λ (l : List CountRow). sets l s'.tally.counts fs) p.counts ∙
          ap (λ (k : ℕ). sets (sets s.counts s.tally.counts ds) k fs) p.count_from ∙ sym (sets_append ds fs s.counts s.tally.counts);
      entry_at = omega (arith, p.entry_at, q.entry_at, length-append ys zs);
      count_from = omega (arith, p.count_from, q.count_from, length-append ds fs);
    }

-- the rule that is read, and the rules read before it, are as they were
pub record Same (s s' : Store) : Type 0 where
  pub rule : s'.filler.rule ≡ s.filler.rule
  pub rule_place : s'.filler.rule_at ≡ s.filler.rule_at
  pub rows : s'.rules ≡ s.rules
  pub rules : s'.tally.rules ≡ s.tally.rules

pub same_none : (s : Store) → Same s s
same_none s = record { rule = refl; rule_place = refl; rows = refl; rules = refl }

pub same_both : (s s' s'' : Store) → Same s s' → Same s' s'' → Same s s''
same_both s s' s'' p q =
    record { rule = q.rule ∙ p.rule; rule_place = q.rule_place ∙ p.rule_place; rows = q.rows ∙ p.rows; rules = q.rules ∙ p.rules }

-- the same store with other entries, and another next place for one
abbrev pub with_entries : Store → List ℕ → ℕ → Store
with_entries s xs e =
    record {
      filler = s.filler;
      tally = record { declared = s.tally.declared; rules = s.tally.rules; counts = s.tally.counts; entries = e };
      rules = s.rules;
      counts = s.counts;
      entries = xs;
    }

pub members_put : (s : Store) (cs : List ℕ) (after : List Part) → fills s (member_parts cs after) ≡ fills (with_entries s (sets s.entries s.tally.entries cs) (s.tally.entries + length cs)) after
members_put s [] after = ap (λ (k : ℕ). fills (with_entries s s.entries k) after) (sym (add-zero s.tally.entries))
members_put s (c ∷ cs) after =
    let e : ℕ = s.tally.entries in
    let one : e + 1 ≡ suc e = omega arith in
    let all : e + 1 + length cs ≡ e + suc (length cs) = omega arith in
    members_put (with_entries s (set s.entries e c) (e + 1)) cs after ∙
    ap (λ (k : ℕ). fills (with_entries s (sets (set s.entries e c) k cs) (e + 1 + length cs)) after) one ∙
    ap (λ (k : ℕ). fills (with_entries s (sets (set s.entries e c) (suc e) cs) k) after) all

-- the store after an item
abbrev pub after_choice : Store → ℕ → Store
after_choice s c = with_entries s (set s.entries s.tally.entries c) (s.tally.entries + 1)

abbrev pub after_count : Store → ℕ → ℕ → List ℕ → Store
after_count s k m cs =
    record {
      filler =
          record {
            rule = s.filler.rule;
            rule_at = s.filler.rule_at;
            count = count_row s.tally.entries k m cs;
            count_at = s.tally.counts;
          };
      tally = record { declared = s.tally.declared; rules = s.tally.rules; counts = s.tally.counts + 1; entries = s.tally.entries + length cs };
      rules = s.rules;
      counts = set s.counts s.tally.counts (count_row s.tally.entries k m cs);
      entries = sets s.entries s.tally.entries cs;
    }

abbrev pub after_items : Store → List Item → Store
after_items s [] = s
after_items s (choice c ∷ is) = after_items (after_choice s c) is
after_items s (count k m cs ∷ is) = after_items (after_count s k m cs) is

pub items_put : (s : Store) (is : List Item) (after : List Part) → fills s (items_parts is after) ≡ fills (after_items s is) after
items_put s [] after = refl
items_put s (choice c ∷ is) after = items_put (after_choice s c) is after
items_put s (count k m cs ∷ is) after =
    members_put (put_part (put_part (put_part s part.CountOpen) (part.Lower k)) (part.Upper m)) cs (part.CountClose ∷ items_parts is after) ∙
    items_put (after_count s k m cs) is after

pub items_laid : (s : Store) (is : List Item) → LaidIn s (after_items s is) (flat is) (count_rows s.tally.entries is)
items_laid s [] = laid_none s
items_laid s (choice c ∷ is) =
    laid_both s (after_choice s c) (after_items (after_choice s c) is) (c ∷ []) (flat is) [] (count_rows (s.tally.entries + 1) is)
    (record { entries = refl; counts = refl; entry_at = refl; count_from = sym (add-zero s.tally.counts) }) (items_laid (after_choice s c) is)
items_laid s (count k m cs ∷ is) =
    laid_both s (after_count s k m cs) (after_items (after_count s k m cs) is) cs (flat is) (count_row s.tally.entries k m cs ∷ []) (count_rows (s.tally.entries + length cs) is)
    (record { entries = refl; counts = refl; entry_at = refl; count_from = refl }) (items_laid (after_count s k m cs) is)

pub items_same : (s : Store) (is : List Item) → Same s (after_items s is)
items_same s [] = same_none s
items_same s (choice c ∷ is) = same_both s (after_choice s c) (after_items (after_choice s c) is) (record { rule = refl; rule_place = refl; rows = refl; rules = refl }) (items_same (after_choice s c) is)
items_same s (count k m cs ∷ is) = same_both s (after_count s k m cs) (after_items (after_count s k m cs) is) (record { rule = refl; rule_place = refl; rows = refl; rules = refl }) (items_same (after_count s k m cs) is)

-- the entries, count rows and rule rows of rules, where the first entry stands at e and the first count at c
abbrev pub all_flat : List Rule → List ℕ
all_flat [] = []
all_flat (r ∷ rs) = flat r.body ++ (flat r.head ++ all_flat rs)

-- the place after the entries of a body, and after those of a rule
abbrev pub past_body : ℕ → Rule → ℕ
past_body e r = e + length (flat r.body)

abbrev pub past_head : ℕ → Rule → ℕ
past_head e r = past_body e r + length (flat r.head)

abbrev pub all_rows : ℕ → List Rule → List CountRow
all_rows e [] = []
all_rows e (r ∷ rs) = count_rows e r.body ++ (count_rows (past_body e r) r.head ++ all_rows (past_head e r) rs)

abbrev pub counts_past_body : ℕ → ℕ → Rule → ℕ
counts_past_body e c r = c + length (count_rows e r.body)

abbrev pub counts_past_head : ℕ → ℕ → Rule → ℕ
counts_past_head e c r = counts_past_body e c r + length (count_rows (past_body e r) r.head)

abbrev pub rule_row : ℕ → ℕ → Rule → RuleRow
rule_row e c r =
    record {
      body = record { entries = record { start = e; end = past_body e r }; counts = record { start = c; end = counts_past_body e c r } };
      head =
          record {
            entries = record { start = past_body e r; end = past_head e r };
            counts = record { start = counts_past_body e c r; end = counts_past_head e c r };
          };
    }

abbrev pub rule_rows : ℕ → ℕ → List Rule → List RuleRow
rule_rows e c [] = []
rule_rows e c (r ∷ rs) = rule_row e c r ∷ rule_rows (past_head e r) (counts_past_head e c r) rs

-- the store after a rule, step by step
abbrev pub in_body : Store → Rule → Store
in_body s r = after_items (put_part s part.RuleLine) r.body

abbrev pub in_head : Store → Rule → Store
in_head s r = after_items (put_part (in_body s r) part.Comma) r.head

abbrev pub after_rule : Store → Rule → Store
after_rule s r = put_part (in_head s r) part.RuleEnd

abbrev pub after_rules : Store → List Rule → Store
after_rules s [] = s
after_rules s (r ∷ rs) = after_rules (after_rule s r) rs

pub rules_put : (s : Store) (rs : List Rule) (after : List Part) → fills s (rules_parts rs after) ≡ fills (after_rules s rs) after
rules_put s [] after = refl
rules_put s (r ∷ rs) after =
    items_put (put_part s part.RuleLine) r.body (part.Comma ∷ items_parts r.head (part.RuleEnd ∷ rules_parts rs after)) ∙
    items_put (put_part (in_body s r) part.Comma) r.head (part.RuleEnd ∷ rules_parts rs after) ∙ rules_put (after_rule s r) rs after

-- Entries, counts and rules after some rules, where the first of them stand at the next places.
pub record AllLaid (s s' : Store) (rs : List Rule) : Type 0 where
  pub laid : LaidIn s s' (all_flat rs) (all_rows s.tally.entries rs)
  pub rules : s'.rules ≡ sets s.rules s.tally.rules (rule_rows s.tally.entries s.tally.counts rs)
  pub rule_place : s'.tally.rules ≡ s.tally.rules + length rs

abbrev row_to : RuleRow → Tally → RuleRow
row_to q t = record { body = q.body; head = side_to q.head t }

abbrev row_at : ℕ → ℕ → ℕ → ℕ → ℕ → ℕ → RuleRow
row_at e c e1 c1 e2 c2 =
    record {
      body = record { entries = record { start = e; end = e1 }; counts = record { start = c; end = c1 } };
      head = record { entries = record { start = e1; end = e2 }; counts = record { start = c1; end = c2 } };
    }

module _ (s : Store) (r : Rule) where
  body_laid : LaidIn s (in_body s r) (flat r.body) (count_rows s.tally.entries r.body)
  body_laid = let l = items_laid (put_part s part.RuleLine) r.body in record { entries = l.entries; counts = l.counts; entry_at = l.entry_at; count_from = l.count_from }

  head_laid : LaidIn (in_body s r) (after_rule s r) (flat r.head) (count_rows (in_body s r).tally.entries r.head)
  head_laid = let l = items_laid (put_part (in_body s r) part.Comma) r.head in record { entries = l.entries; counts = l.counts; entry_at = l.entry_at; count_from = l.count_from }

  head_laid_from : LaidIn (in_body s r) (after_rule s r) (flat r.head) (count_rows (past_body s.tally.entries r) r.head)
  head_laid_from =
      subst (λ (e : ℕ). LaidIn (in_body s r) (after_rule s r) (flat r.head) (count_rows e r.head)) body_laid.entry_at head_laid

  -- the row that is written
  row_written : rule_to (in_head s r).filler (in_head s r).tally ≡ rule_row s.tally.entries s.tally.counts r
  row_written =
      let b : Store = in_body s r in
      let h : Store = in_head s r in
      let e1 : b.tally.entries ≡ past_body s.tally.entries r = body_laid.entry_at in
      let c1 : b.tally.counts ≡ counts_past_body s.tally.entries s.tally.counts r = body_laid.count_from in
      let e2 : h.tally.entries ≡ past_head s.tally.entries r = head_laid_from.entry_at ∙ ap (λ (k : ℕ). k + length (flat r.head)) e1 in
      let c2 : h.tally.counts ≡ counts_past_head s.tally.entries s.tally.counts r = head_laid_from.count_from ∙ ap (λ (k : ℕ). k + length (count_rows (past_body s.tally.entries r) r.head)) c1 in
      ap (λ (q : RuleRow). row_to q h.tally) (items_same (put_part b part.Comma) r.head).rule ∙
      ap (λ (q : RuleRow). row_to (record { body = side_to q.body b.tally; head = side_from b.tally }) h.tally) (items_same (put_part s part.RuleLine) r.body).rule ∙
      ap (λ (k : ℕ). row_at s.tally.entries s.tally.counts k b.tally.counts h.tally.entries h.tally.counts) e1 ∙
      ap (λ (k : ℕ). row_at s.tally.entries s.tally.counts (past_body s.tally.entries r) k h.tally.entries h.tally.counts) c1 ∙
      ap (λ (k : ℕ). row_at s.tally.entries s.tally.counts (past_body s.tally.entries r) (counts_past_body s.tally.entries s.tally.counts r) k h.tally.counts) e2 ∙
      ap (λ (k : ℕ). row_at s.tally.entries s.tally.counts (past_body s.tally.entries r) (counts_past_body s.tally.entries s.tally.counts r) (past_head s.tally.entries r) k) c2

  pub rule_laid : LaidIn s (after_rule s r) (flat r.body ++ flat r.head) (count_rows s.tally.entries r.body ++ count_rows (past_body s.tally.entries r) r.head)
  rule_laid = laid_both s (in_body s r) (after_rule s r) (flat r.body) (flat r.head) (count_rows s.tally.entries r.body) (count_rows (past_body s.tally.entries r) r.head) body_laid head_laid_from

  -- it is the next row, and the rows before it are as they were
  pub rule_written : (after_rule s r).rules ≡ set s.rules s.tally.rules (rule_row s.tally.entries s.tally.counts r)
  rule_written =
      let p = items_same (put_part s part.RuleLine) r.body in
      let q = items_same (put_part (in_body s r) part.Comma) r.head in
      ap (λ (k : RuleRow). set (in_head s r).rules (in_head s r).filler.rule_at k) row_written ∙
      ap (λ (k : ℕ). set (in_head s r).rules k (rule_row s.tally.entries s.tally.counts r)) (q.rule_place ∙ p.rule_place) ∙
      ap (λ (l : List RuleRow). set l s.tally.rules (rule_row s.tally.entries s.tally.counts r)) (q.rows ∙ p.rows)

  pub rule_counted : (after_rule s r).tally.rules ≡ s.tally.rules + 1
  rule_counted = (items_same (put_part (in_body s r) part.Comma) r.head).rules ∙ (items_same (put_part s part.RuleLine) r.body).rules

  pub entries_past : (after_rule s r).tally.entries ≡ past_head s.tally.entries r
  entries_past = head_laid_from.entry_at ∙ ap (λ (k : ℕ). k + length (flat r.head)) body_laid.entry_at

  pub counts_past : (after_rule s r).tally.counts ≡ counts_past_head s.tally.entries s.tally.counts r
  counts_past = head_laid_from.count_from ∙ ap (λ (k : ℕ). k + length (count_rows (past_body s.tally.entries r) r.head)) body_laid.count_from

pub rules_laid : (s : Store) (rs : List Rule) → AllLaid s (after_rules s rs) rs
rules_laid s [] = record { laid = laid_none s; rules = refl; rule_place = sym (add-zero s.tally.rules) }
rules_laid s (r ∷ rs) =
    let t : Store = after_rule s r in
    let e : ℕ = s.tally.entries in
    let c : ℕ = s.tally.counts in
    let rest = rules_laid t rs in
    let rows : LaidIn t (after_rules t rs) (all_flat rs) (all_rows (past_head e r) rs) = subst (λ (k : ℕ). LaidIn t (after_rules t rs) (all_flat rs) (all_rows k rs)) (entries_past s r) rest.laid in
    let both = laid_both s t (after_rules t rs) (flat r.body ++ flat r.head) (all_flat rs) (count_rows e r.body ++ count_rows (past_body e r) r.head) (all_rows (past_head e r) rs) (rule_laid s r) rows in
    let one : t.tally.rules ≡ suc s.tally.rules = rule_counted s r ∙ add-one s.tally.rules in
    record {
      laid =
          subst (λ (ys : List ℕ). LaidIn s (after_rules t rs) ys (all_rows e (r ∷ rs))) (append_assoc (flat r.body) (flat r.head) (all_flat rs))
          (subst (λ (ds : List CountRow). LaidIn s (after_rules t rs) ((flat r.body ++ flat r.head) ++ all_flat rs) ds) (append_assoc (count_rows e r.body) (count_rows (past_body e r) r.head) (all_rows (past_head e r) rs)) both);
      rules =
          rest.rules ∙ ap (λ (l : List RuleRow). sets l t.tally.rules (rule_rows t.tally.entries t.tally.counts rs)) (rule_written s r) ∙
          ap (λ (k : ℕ). sets (set s.rules s.tally.rules (rule_row e c r)) k (rule_rows t.tally.entries t.tally.counts rs)) one ∙
          ap (λ (k : ℕ). sets (set s.rules s.tally.rules (rule_row e c r)) (suc s.tally.rules) (rule_rows k t.tally.counts rs)) (entries_past s r) ∙
          ap (λ (k : ℕ). sets (set s.rules s.tally.rules (rule_row e c r)) (suc s.tally.rules) (rule_rows (past_head e r) k rs)) (counts_past s r);
      rule_place = omega (arith, rest.rule_place, rule_counted s r);
    }
