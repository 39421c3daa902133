-- The parts of a file break nothing exactly if its rules keep the limits.
use Rattle.std.proofs.Common.{◌≡◌, ℕ, ◌+◌, ◌<◌, ◌≤◌, List, [], ◌∷◌, length, sym, refl, ap, ◌∙◌, subst, inl, inr, arith}
use Rattle.rules.specs.Rules.{Item, choice, count, Rule}
use Rattle.scan.specs.Words.{Word, line, header, stray, number, opening, closing, comma, feed, unknown, end, cut}
use Rattle.rule_file.specs.declared.line.Part.{Part}
use Rattle.rule_file.specs.declared.line.Part.TheVariants as part
use Rattle.rule_file.specs.Causes.{Sum, nothing_yet, with_size, with_declared, one_rule, one_count, one_item, one_member, adding, adding_all, sum, Breaks, no_item, no_member, repeated, large_size, many_rules, many_counts, many_items, many_members, surplus_rule, missing_rule}
use Rattle.rule_file.specs.Form.{written_as, member_parts, items_parts, rules_parts, form, IsChoice, AllChoices, Occurs, Distinct, GoodItems, GoodRules, item_counts, item_entries, all_counts, all_entries, Within}
use Rattle.rule_file.proofs.Held.{harmless}

-- a number that the scanner takes
abbrev pub SmallWord : Word → Type 0
SmallWord line = Unit {0}
SmallWord header = Unit {0}
SmallWord stray = Unit {0}
SmallWord (number v) = v ≤ 65535
SmallWord opening = Unit {0}
SmallWord closing = Unit {0}
SmallWord comma = Unit {0}
SmallWord feed = Unit {0}
SmallWord unknown = Unit {0}
SmallWord end = Unit {0}
SmallWord cut = Unit {0}

-- parts that break nothing, after others that add up to s
abbrev pub Sound : Sum → List Part → Type 0
Sound s [] = Unit {0}
Sound s (p ∷ ps) = ((d : ℕ) → Breaks s p d → ⊥) × SmallWord (written_as p) × Sound (adding s p) ps

-- a sum with more rules, counts and entries, and whatever choices
pub record Grown (s : Sum) (rules counts entries : ℕ) (s' : Sum) : Type 0 where
  pub size : s'.size ≡ s.size
  pub declared : s'.declared ≡ s.declared
  pub rules_is : s'.rules ≡ s.rules + rules
  pub counts_is : s'.counts ≡ s.counts + counts
  pub entries_is : s'.entries ≡ s.entries + entries

not_le : (a b : ℕ) → (a ≤ b → ⊥) → b < a
not_le a b f = omega arith

not_lt : (a b : ℕ) → (a < b → ⊥) → b ≤ a
not_lt a b f = omega arith

some : (c : ℕ) → (c ≡ 0 → ⊥) → 1 ≤ c
some c f = omega arith

grown_none : (s : Sum) → Grown s 0 0 0 s
grown_none s = record { size = refl; declared = refl; rules_is = omega arith; counts_is = omega arith; entries_is = omega arith }

-- Parts that break nothing keep the limits.

pub record Members (s : Sum) (cs : List ℕ) (after : List Part) : Type 0 where
  pub choices : AllChoices s.size cs
  pub distinct : Distinct cs
  pub apart : (v : ℕ) → Occurs v cs → Occurs v s.had → ⊥
  pub then : Sum
  pub grown : Grown s 0 0 (length cs) then
  pub room : s.entries ≤ 16384 → then.entries ≤ 16384
  pub sound : Sound then after
  pub sums : adding_all s (member_parts cs after) ≡ adding_all then after

members_keep : (cs : List ℕ) (s : Sum) (after : List Part) → Sound s (member_parts cs after) → Members s cs after
members_keep [] s after x =
    record { choices = tt; distinct = tt; apart = λ v o. absurd o; then = s; grown = grown_none s; room = λ h. h; sound = x; sums = refl }
members_keep (c ∷ cs) s after x =
    let r = members_keep cs (one_member c s) after x.2 in
    let g = r.grown in
    record {
      choices = ((some c (λ e. x.0 14 (no_member (inl e))), not_lt s.size c (λ h. x.0 14 (no_member (inr h)))), r.choices);
      distinct = ((λ o. r.apart c o (inl refl)), r.distinct);
      apart = apart_from r.apart;
      then = r.then;
      grown = record { size = g.size; declared = g.declared; rules_is = g.rules_is; counts_is = g.counts_is; entries_is = omega (arith, g.entries_is) };
      room = λ h. r.room (let k = not_le 16384 s.entries (λ j. x.0 16 (many_members j)) in omega arith);
      sound = r.sound;
      sums = r.sums;
    }
  where
    apart_from : ((v : ℕ) → Occurs v cs → Occurs v (c ∷ s.had) → ⊥) → (v : ℕ) → Occurs v (c ∷ cs) → Occurs v s.had → ⊥
    apart_from f v (inl e) o = x.0 15 (repeated (subst (λ (z : ℕ). Occurs z s.had) e o))
    apart_from f v (inr u) o = f v u (inr o)

pub record Items (s : Sum) (is : List Item) (after : List Part) : Type 0 where
  pub good : GoodItems s.size is
  pub then : Sum
  pub grown : Grown s 0 (item_counts is) (item_entries is) then
  pub count_room : s.counts ≤ 1024 → then.counts ≤ 1024
  pub entry_room : s.entries ≤ 16384 → then.entries ≤ 16384
  pub sound : Sound then after
  pub sums : adding_all s (items_parts is after) ≡ adding_all then after

items_keep : (is : List Item) (s : Sum) (after : List Part) → Sound s (items_parts is after) → Items s is after
items_keep [] s after x = record { good = tt; then = s; grown = grown_none s; count_room = λ h. h; entry_room = λ h. h; sound = x; sums = refl }
items_keep (choice c ∷ is) s after x =
    let r = items_keep is (one_item s) after x.2 in
    let g = r.grown in
    record {
      good = ((some c (λ e. x.0 14 (no_item (inl e))), not_lt s.size c (λ h. x.0 14 (no_item (inr h)))), r.good);
      then = r.then;
      grown = record { size = g.size; declared = g.declared; rules_is = g.rules_is; counts_is = g.counts_is; entries_is = omega (arith, g.entries_is) };
      count_room = r.count_room;
      entry_room = λ h. r.entry_room (let k = not_le 16384 s.entries (λ j. x.0 16 (many_items j)) in omega arith);
      sound = r.sound;
      sums = r.sums;
    }
items_keep (count k m cs ∷ is) s after x =
    let a = members_keep cs (one_count s) (part.CountClose ∷ items_parts is after) x.2.2.2 in
    let r = items_keep is a.then after a.sound.2 in
    let f = a.grown in
    let g = r.grown in
    record {
      good = ((x.2.1, x.2.2.1, a.choices, a.distinct), subst (λ (n : ℕ). GoodItems n is) f.size r.good);
      then = r.then;
      grown = record { size = g.size ∙ f.size; declared = g.declared ∙ f.declared; rules_is = omega (arith, f.rules_is, g.rules_is); counts_is = omega (arith, f.counts_is, g.counts_is); entries_is = omega (arith, f.entries_is, g.entries_is) };
      count_room = λ h. r.count_room (let j = not_le 1024 s.counts (λ j. x.0 16 (many_counts j)) in omega (arith, f.counts_is));
      entry_room = λ h. r.entry_room (a.room h);
      sound = r.sound;
      sums = a.sums ∙ r.sums;
    }

pub record Rules (s : Sum) (rs : List Rule) (after : List Part) : Type 0 where
  pub good : GoodRules s.size rs
  pub then : Sum
  pub grown : Grown s (length rs) (all_counts rs) (all_entries rs) then
  pub rule_room : s.rules ≤ s.declared → then.rules ≤ s.declared
  pub count_room : s.counts ≤ 1024 → then.counts ≤ 1024
  pub entry_room : s.entries ≤ 16384 → then.entries ≤ 16384
  pub sound : Sound then after
  pub sums : adding_all s (rules_parts rs after) ≡ adding_all then after

rules_keep : (rs : List Rule) (s : Sum) (after : List Part) → Sound s (rules_parts rs after) → Rules s rs after
rules_keep [] s after x =
    record { good = tt; then = s; grown = grown_none s; rule_room = λ h. h; count_room = λ h. h; entry_room = λ h. h; sound = x; sums = refl }
rules_keep (r ∷ rs) s after x =
    let a = items_keep r.body (one_rule s) (part.Comma ∷ items_parts r.head (part.RuleEnd ∷ rules_parts rs after)) x.2 in
    let b = items_keep r.head a.then (part.RuleEnd ∷ rules_parts rs after) a.sound.2 in
    let c = rules_keep rs b.then after b.sound.2 in
    let e = a.grown in
    let f = b.grown in
    let g = c.grown in
    record {
      good = (a.good, subst (λ (n : ℕ). GoodItems n r.head) e.size b.good, subst (λ (n : ℕ). GoodRules n rs) (f.size ∙ e.size) c.good);
      then = c.then;
      grown = record { size = g.size ∙ f.size ∙ e.size; declared = g.declared ∙ f.declared ∙ e.declared; rules_is = omega (arith, e.rules_is, f.rules_is, g.rules_is); counts_is = omega (arith, e.counts_is, f.counts_is, g.counts_is); entries_is = omega (arith, e.entries_is, f.entries_is, g.entries_is) };
      rule_room = λ h.
          let k = not_le s.declared s.rules (λ j. x.0 17 (surplus_rule j)) in
          let j = c.rule_room (omega (arith, e.rules_is, f.rules_is, e.declared, f.declared)) in
          omega (arith, e.declared, f.declared);
      count_room = λ h. c.count_room (b.count_room (a.count_room h));
      entry_room = λ h. c.entry_room (b.entry_room (a.entry_room h));
      sound = c.sound;
      sums = a.sums ∙ b.sums ∙ c.sums;
    }

pub record Kept (n m : ℕ) (rs : List Rule) : Type 0 where
  pub within : Within n rs
  pub many : m ≡ length rs
  pub size : (sum (form n m rs)).size ≡ n
  pub rules : (sum (form n m rs)).rules ≡ length rs

pub form_keep : (n m : ℕ) (rs : List Rule) → Sound nothing_yet (form n m rs) → Kept n m rs
form_keep n m rs x =
    let s : Sum = with_declared m (with_size n nothing_yet) in
    let r = rules_keep rs s (part.End ∷ []) x.2.2.2.2.2 in
    let g = r.grown in
    let small : n ≤ 4096 = not_lt 4096 n (λ h. x.2.2.0 16 (large_size h)) in
    let few : m ≤ 2048 = not_lt 2048 m (λ h. x.2.2.2.0 16 (many_rules h)) in
    let top : r.then.rules ≤ m = r.rule_room (omega arith) in
    let all : r.then.declared ≤ r.then.rules = not_lt r.then.rules r.then.declared (λ h. r.sound.0 17 (missing_rule h)) in
    let same : m ≡ length rs = omega (arith, g.rules_is, g.declared) in
    let counts : r.then.counts ≤ 1024 = r.count_room (omega arith) in
    let entries : r.then.entries ≤ 16384 = r.entry_room (omega arith) in
    record {
      within = record { size = small; rules = omega arith; counts = omega (arith, g.counts_is); entries = omega (arith, g.entries_is); good = r.good };
      many = same;
      size = ap (λ (z : Sum). z.size) r.sums ∙ g.size;
      rules = ap (λ (z : Sum). z.rules) r.sums ∙ (omega (arith, g.rules_is));
    }

-- Rules that keep the limits have parts that break nothing.

member_fits : (s : Sum) (c d : ℕ) → IsChoice s.size c → (Occurs c s.had → ⊥) → s.entries < 16384 → Breaks s (part.Member c) d → ⊥
member_fits s c d i o h (no_member (inl e)) = omega (arith, i.0)
member_fits s c d i o h (no_member (inr k)) = omega (arith, i.1)
member_fits s c d i o h (repeated x) = o x
member_fits s c d i o h (many_members k) = omega arith

item_fits : (s : Sum) (c d : ℕ) → IsChoice s.size c → s.entries < 16384 → Breaks s (part.Choice c) d → ⊥
item_fits s c d i h (no_item (inl e)) = omega (arith, i.0)
item_fits s c d i h (no_item (inr k)) = omega (arith, i.1)
item_fits s c d i h (many_items k) = omega arith

count_fits : (s : Sum) (d : ℕ) → s.counts < 1024 → Breaks s part.CountOpen d → ⊥
count_fits s d h (many_counts k) = omega arith

rule_fits : (s : Sum) (d : ℕ) → s.rules < s.declared → Breaks s part.RuleLine d → ⊥
rule_fits s d h (surplus_rule k) = omega arith

end_fits : (s : Sum) (d : ℕ) → s.declared ≤ s.rules → Breaks s part.End d → ⊥
end_fits s d h (missing_rule k) = omega arith

size_fits : (s : Sum) (n d : ℕ) → n ≤ 4096 → Breaks s (part.Size n) d → ⊥
size_fits s n d h (large_size k) = omega arith

rules_fits : (s : Sum) (m d : ℕ) → m ≤ 2048 → Breaks s (part.Rules m) d → ⊥
rules_fits s m d h (many_rules k) = omega arith

members_fit :
    (cs : List ℕ) (s : Sum) (after : List Part) → s.size ≤ 4096 → AllChoices s.size cs → Distinct cs → ((v : ℕ) → Occurs v cs → Occurs v s.had → ⊥) →
    s.entries + length cs ≤ 16384 → ((s' : Sum) → Grown s 0 0 (length cs) s' → Sound s' after) → Sound s (member_parts cs after)
members_fit [] s after n a d f h k = k s (grown_none s)
members_fit (c ∷ cs) s after n a d f h k = (
  (λ e. member_fits s c e a.0 (f c (inl refl)) (omega arith)),
  (omega (arith, a.0.1)),
  members_fit cs (one_member c s) after n a.1 d.1 apart (omega arith) (λ s' g. k s' (record { size = g.size; declared = g.declared; rules_is = g.rules_is; counts_is = g.counts_is; entries_is = omega (arith, g.entries_is) })),
)
  where
    apart : (v : ℕ) → Occurs v cs → Occurs v (c ∷ s.had) → ⊥
    apart v o (inl e) = d.0 (subst (λ (z : ℕ). Occurs z cs) e o)
    apart v o (inr x) = f v (inr o) x

abbrev ItemsFit : List Item → Type 0
ItemsFit is =
    (s : Sum) (after : List Part) → s.size ≤ 4096 → GoodItems s.size is → s.counts + item_counts is ≤ 1024 → s.entries + item_entries is ≤ 16384 →
    ((s' : Sum) → Grown s 0 (item_counts is) (item_entries is) s' → Sound s' after) → Sound s (items_parts is after)

items_fit : (is : List Item) → ItemsFit is
items_fit [] s after n a h j k = k s (grown_none s)
items_fit (choice c ∷ is) s after n a h j k = (
  (λ e. item_fits s c e a.0 (omega arith)),
  (omega (arith, a.0.1)),
  items_fit is (one_item s) after n a.1 h (omega arith) (λ s' g. k s' (record { size = g.size; declared = g.declared; rules_is = g.rules_is; counts_is = g.counts_is; entries_is = omega (arith, g.entries_is) })),
)
items_fit (count lo hi cs ∷ is) s after n a h j k = (
  (λ e. count_fits s e (omega arith)),
  tt,
  (
    (λ e b. harmless (one_count s) b tt),
    a.0.0,
    (
      (λ e b. harmless (one_count s) b tt),
      a.0.1,
      members_fit cs (one_count s) (part.CountClose ∷ items_parts is after) n a.0.2 a.0.3 (λ v o x. x) (omega arith) (rest (items_fit is)),
    ),
  ),
)
  where
    rest : ItemsFit is → (s' : Sum) → Grown (one_count s) 0 0 (length cs) s' → Sound s' (part.CountClose ∷ items_parts is after)
    rest ih s' g = (
      (λ e b. harmless s' b tt),
      tt,
      ih s' after (omega (arith, g.size)) (subst (λ (z : ℕ). GoodItems z is) (sym g.size) a.1) (omega (arith, g.counts_is)) (omega (arith, g.entries_is))
          (λ s'' f. k s'' (record { size = f.size ∙ g.size; declared = f.declared ∙ g.declared; rules_is = omega (arith, f.rules_is, g.rules_is); counts_is = omega (arith, f.counts_is, g.counts_is); entries_is = omega (arith, f.entries_is, g.entries_is) })),
    )

abbrev RulesFit : List Rule → Type 0
RulesFit rs =
    (s : Sum) (after : List Part) → s.size ≤ 4096 → GoodRules s.size rs → s.rules + length rs ≤ s.declared → s.counts + all_counts rs ≤ 1024 →
    s.entries + all_entries rs ≤ 16384 → ((s' : Sum) → Grown s (length rs) (all_counts rs) (all_entries rs) s' → Sound s' after) → Sound s (rules_parts rs after)

rules_fit : (rs : List Rule) → RulesFit rs
rules_fit [] s after n a h i j k = k s (grown_none s)
rules_fit (r ∷ rs) s after n a h i j k = (
  (λ e. rule_fits s e (omega arith)),
  tt,
  items_fit r.body (one_rule s) (part.Comma ∷ items_parts r.head (part.RuleEnd ∷ rules_parts rs after)) n a.0 (omega arith) (omega arith) (the_head (rules_fit rs)),
)
  where
    the_rest :
        RulesFit rs → (s' s'' : Sum) → Grown (one_rule s) 0 (item_counts r.body) (item_entries r.body) s' → Grown s' 0 (item_counts r.head) (item_entries r.head) s'' →
        Sound s'' (part.RuleEnd ∷ rules_parts rs after)
    the_rest ih s' s'' f g = (
      (λ e b. harmless s'' b tt),
      tt,
      ih s'' after (omega (arith, f.size, g.size)) (subst (λ (z : ℕ). GoodRules z rs) (sym (g.size ∙ f.size)) a.2) (omega (arith, f.rules_is, g.rules_is, f.declared, g.declared))
          (omega (arith, f.counts_is, g.counts_is)) (omega (arith, f.entries_is, g.entries_is))
          (λ z e. k z (record { size = e.size ∙ g.size ∙ f.size; declared = e.declared ∙ g.declared ∙ f.declared; rules_is = omega (arith, e.rules_is, f.rules_is, g.rules_is); counts_is = omega (arith, e.counts_is, f.counts_is, g.counts_is); entries_is = omega (arith, e.entries_is, f.entries_is, g.entries_is) })),
    )

    the_head : RulesFit rs → (s' : Sum) → Grown (one_rule s) 0 (item_counts r.body) (item_entries r.body) s' → Sound s' (part.Comma ∷ items_parts r.head (part.RuleEnd ∷ rules_parts rs after))
    the_head ih s' f = (
      (λ e b. harmless s' b tt),
      tt,
      items_fit r.head s' (part.RuleEnd ∷ rules_parts rs after) (omega (arith, f.size)) (subst (λ (z : ℕ). GoodItems z r.head) (sym f.size) a.1) (omega (arith, f.counts_is)) (omega (arith, f.entries_is)) (λ s'' g. the_rest ih s' s'' f g),
    )

pub form_fit : (n : ℕ) (rs : List Rule) → Within n rs → Sound nothing_yet (form n (length rs) rs)
form_fit n rs w = (
  (λ e b. harmless nothing_yet b tt),
  tt,
  (
    (λ e b. harmless nothing_yet b tt),
    tt,
    (
      (λ e. size_fits nothing_yet n e w.size),
      (omega (arith, w.size)),
      (
        (λ e. rules_fits (with_size n nothing_yet) (length rs) e w.rules),
        (omega (arith, w.rules)),
        (
          (λ e b. harmless s b tt),
          tt,
          rules_fit rs s (part.End ∷ []) w.size w.good (omega arith) (omega (arith, w.counts)) (omega (arith, w.entries))
              (λ s' g. ((λ e. end_fits s' e (omega (arith, g.rules_is, g.declared))), tt, tt)),
        ),
      ),
    ),
  ),
)
  where
    s : Sum
    s = with_declared (length rs) (with_size n nothing_yet)
