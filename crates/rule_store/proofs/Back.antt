-- What the rows mean, read back.
use Rattle.std.proofs.Common.{◌≡◌, ℕ, suc, ◌+◌, ◌-◌, ◌≤◌, List, [], ◌∷◌, ◌++◌, length, take, drop, sym, refl, ap, ◌∙◌, append_assoc, add-zero, arith, length-append, take_at, drop_at}
use lib.Seq.{sets, sets-eq}
use Rattle.std.proofs.lemmas.List.{drop-drop}
use Rattle.rules.specs.declared.CountRow.{CountRow}
use Rattle.rules.specs.declared.RuleRow.{RuleRow}
use Rattle.rules.specs.Rules.{Item, choice, count, Rule}
use Rattle.rules.specs.Storage.{run, choices, items, side_items, decode}
use Rattle.rule_file.specs.Form.{form, item_counts, item_entries, all_counts, all_entries, Within}
use Rattle.rule_file.specs.declared.line.Part.TheVariants as part
use Rattle.rule_store.specs.declared.fill.Filler.{Filler}
use Rattle.rule_store.specs.Filling.{Store, put_part, fills, unfilled}
use Rattle.rule_store.specs.Storing.{Full}
use Rattle.rule_store.proofs.Placing.{flat, count_rows, all_flat, past_body, past_head, all_rows, counts_past_body, counts_past_head, rule_row, rule_rows, rules_put, after_rules, rules_laid}

-- what stands from a place on, and what stands after it
run_is : {A : Type 0} (xs mid post : List A) (a b : ℕ) → drop a xs ≡ mid ++ post → b ≡ a + length mid → run a b xs ≡ mid
run_is xs mid post a b d e =
    let n : length mid ≡ b - a = omega arith in
    ap (take (b - a)) d ∙ take_at mid post (b - a) n

drop_past : {A : Type 0} (xs mid post : List A) (a : ℕ) → drop a xs ≡ mid ++ post → drop (a + length mid) xs ≡ post
drop_past xs mid post a d = sym (drop-drop (length mid) a xs) ∙ ap (drop (length mid)) d ∙ drop_at mid post (length mid) refl

-- the first of some count rows starts at a place or later
abbrev Later : ℕ → List CountRow → Type 0
Later e [] = Unit {0}
Later e (k ∷ ks) = e ≤ k.choices.start

later_by : (e f : ℕ) (ks : List CountRow) → e ≤ f → Later f ks → Later e ks
later_by e f [] h l = tt
later_by e f (k ∷ ks) h l = omega (arith, l)

starts : (e : ℕ) (is : List Item) → Later e (count_rows e is)
starts e [] = tt
starts e (choice c ∷ is) = later_by e (e + 1) (count_rows (e + 1) is) (omega arith) (starts (e + 1) is)
starts e (count k m cs ∷ is) = omega arith

run_step : (xs rest : List ℕ) (a b c : ℕ) → drop a xs ≡ c ∷ rest → a + 1 ≤ b → run a b xs ≡ c ∷ run (a + 1) b xs
run_step xs rest a b c d h =
    let n : b - a ≡ suc (b - (a + 1)) = omega arith in
    ap (take (b - a)) d ∙ ap (λ (k : ℕ). take k (c ∷ rest)) n ∙ ap (λ (l : List ℕ). c ∷ take (b - (a + 1)) l) (sym (drop_past xs (c ∷ []) rest a d))

-- a choice that stands before the first count
lone : (xs rest : List ℕ) (a b c : ℕ) (ks : List CountRow) → drop a xs ≡ c ∷ rest → a + 1 ≤ b → Later (a + 1) ks → items xs a b ks ≡ choice c ∷ items xs (a + 1) b ks
lone xs rest a b c [] d h l = ap choices (run_step xs rest a b c d h)
lone xs rest a b c (k ∷ ks) d h l =
    ap (λ (r : List ℕ). choices r ++ (count k.lower k.upper (run k.choices.start k.choices.end xs) ∷ items xs k.choices.end b ks)) (run_step xs rest a k.choices.start c d l)

items_back : (xs post : List ℕ) (is : List Item) (a b : ℕ) → drop a xs ≡ flat is ++ post → b ≡ a + length (flat is) → items xs a b (count_rows a is) ≡ is
items_back xs post [] a b d e = ap choices (run_is xs [] post a b d e)
items_back xs post (choice c ∷ is) a b d e =
    lone xs (flat is ++ post) a b c (count_rows (a + 1) is) d (omega arith) (starts (a + 1) is) ∙
    ap (λ (l : List Item). choice c ∷ l) (items_back xs post is (a + 1) b (drop_past xs (c ∷ []) (flat is ++ post) a d) (omega arith))
items_back xs post (count k m cs ∷ is) a b d e =
    let rest : List ℕ = flat is ++ post in
    let here : drop a xs ≡ cs ++ rest = d ∙ append_assoc cs (flat is) post in
    let none : run a a xs ≡ [] = run_is xs [] (cs ++ rest) a a here (sym (add-zero a)) in
    let tail : List Item = items xs (a + length cs) b (count_rows (a + length cs) is) in
    ap (λ (r : List ℕ). choices r ++ (count k m (run a (a + length cs) xs) ∷ tail)) none ∙
    ap (λ (r : List ℕ). count k m r ∷ tail) (run_is xs cs rest a (a + length cs) here refl) ∙
    ap (λ (l : List Item). count k m cs ∷ l) (items_back xs post is (a + length cs) b (drop_past xs cs rest a here) (omega (arith, length-append cs (flat is))))

side_back :
    (xs post : List ℕ) (cs cpost : List CountRow) (is : List Item) (e c : ℕ) → drop e xs ≡ flat is ++ post → drop c cs ≡ count_rows e is ++ cpost →
    side_items cs xs (record { entries = record { start = e; end = e + length (flat is) }; counts = record { start = c; end = c + length (count_rows e is) } }) ≡ is
side_back xs post cs cpost is e c d k =
    ap (items xs e (e + length (flat is))) (run_is cs (count_rows e is) cpost c (c + length (count_rows e is)) k refl) ∙ items_back xs post is e (e + length (flat is)) d refl

abbrev rule_with : List Item → List Item → Rule
rule_with body head = record { body = body; head = head }

decode_back :
    (rs : List Rule) (xs post : List ℕ) (cs cpost : List CountRow) (e c : ℕ) → drop e xs ≡ all_flat rs ++ post → drop c cs ≡ all_rows e rs ++ cpost →
    decode (rule_rows e c rs) cs xs ≡ rs
decode_back [] xs post cs cpost e c d k = refl
decode_back (r ∷ rs) xs post cs cpost e c d k =
    let head_rows : List CountRow = count_rows (past_body e r) r.head in
    let d0 : drop e xs ≡ flat r.body ++ ((flat r.head ++ all_flat rs) ++ post) = d ∙ append_assoc (flat r.body) (flat r.head ++ all_flat rs) post in
    let d1 : drop (past_body e r) xs ≡ flat r.head ++ (all_flat rs ++ post) = drop_past xs (flat r.body) ((flat r.head ++ all_flat rs) ++ post) e d0 ∙ append_assoc (flat r.head) (all_flat rs) post in
    let d2 : drop (past_head e r) xs ≡ all_flat rs ++ post = drop_past xs (flat r.head) (all_flat rs ++ post) (past_body e r) d1 in
    let k0 : drop c cs ≡ count_rows e r.body ++ ((head_rows ++ all_rows (past_head e r) rs) ++ cpost) = k ∙ append_assoc (count_rows e r.body) (head_rows ++ all_rows (past_head e r) rs) cpost in
    let k1 : drop (counts_past_body e c r) cs ≡ head_rows ++ (all_rows (past_head e r) rs ++ cpost) = drop_past cs (count_rows e r.body) ((head_rows ++ all_rows (past_head e r) rs) ++ cpost) c k0 ∙ append_assoc head_rows (all_rows (past_head e r) rs) cpost in
    let k2 : drop (counts_past_head e c r) cs ≡ all_rows (past_head e r) rs ++ cpost = drop_past cs head_rows (all_rows (past_head e r) rs ++ cpost) (counts_past_body e c r) k1 in
    ap (λ (is : List Item). rule_with is (side_items cs xs (rule_row e c r).head) ∷ decode (rule_rows (past_head e r) (counts_past_head e c r) rs) cs xs) (side_back xs ((flat r.head ++ all_flat rs) ++ post) cs ((head_rows ++ all_rows (past_head e r) rs) ++ cpost) r.body e c d0 k0) ∙
    ap (λ (is : List Item). rule_with r.body is ∷ decode (rule_rows (past_head e r) (counts_past_head e c r) rs) cs xs) (side_back xs (all_flat rs ++ post) cs (all_rows (past_head e r) rs ++ cpost) r.head (past_body e r) (counts_past_body e c r) d1 k1) ∙
    ap (λ (l : List Rule). r ∷ l) (decode_back rs xs post cs cpost (past_head e r) (counts_past_head e c r) d2 k2)

-- how long they are
flat_length : (is : List Item) → length (flat is) ≡ item_entries is
flat_length [] = refl
flat_length (choice c ∷ is) = omega (arith, flat_length is)
flat_length (count k m cs ∷ is) = omega (arith, flat_length is, length-append cs (flat is))

rows_length : (e : ℕ) (is : List Item) → length (count_rows e is) ≡ item_counts is
rows_length e [] = refl
rows_length e (choice c ∷ is) = rows_length (e + 1) is
rows_length e (count k m cs ∷ is) = omega (arith, rows_length (e + length cs) is)

all_flat_length : (rs : List Rule) → length (all_flat rs) ≡ all_entries rs
all_flat_length [] = refl
all_flat_length (r ∷ rs) = omega (arith, length-append (flat r.body) (flat r.head ++ all_flat rs), length-append (flat r.head) (all_flat rs), flat_length r.body, flat_length r.head, all_flat_length rs)

all_rows_length : (e : ℕ) (rs : List Rule) → length (all_rows e rs) ≡ all_counts rs
all_rows_length e [] = refl
all_rows_length e (r ∷ rs) =
    omega (arith, length-append (count_rows e r.body) (count_rows (past_body e r) r.head ++ all_rows (past_head e r) rs), length-append (count_rows (past_body e r) r.head) (all_rows (past_head e r) rs), rows_length e r.body, rows_length (past_body e r) r.head, all_rows_length (past_head e r) rs)

rule_rows_length : (e c : ℕ) (rs : List Rule) → length (rule_rows e c rs) ≡ length rs
rule_rows_length e c [] = refl
rule_rows_length e c (r ∷ rs) = omega (arith, rule_rows_length (past_head e r) (counts_past_head e c r) rs)

-- what is laid into a list from its start stands in front
in_front : {A : Type 0} (l vs : List A) → length vs ≤ length l → sets l 0 vs ≡ vs ++ drop (0 + length vs) l
in_front l vs h = sets-eq vs l 0 (omega arith)

-- Storage that is filled with the parts of a file means the file's rules.
pub filled_means :
    (f : Filler) (rows : List RuleRow) (cs : List CountRow) (xs : List ℕ) (n m : ℕ) (rs : List Rule) → Full (length rows) (length cs) (length xs) → Within n rs →
    (s : Store) → s ≡ fills (unfilled f rows cs xs) (form n m rs) → decode (take (length rs) s.rules) s.counts s.entries ≡ rs
filled_means f rows cs xs n m rs full within s e =
    let headed : Store = record { filler = f; tally = record { declared = m; rules = 0; counts = 0; entries = 0 }; rules = rows; counts = cs; entries = xs } in
    let put : s ≡ put_part (after_rules headed rs) part.End = e ∙ rules_put headed rs (part.End ∷ []) in
    let all = rules_laid headed rs in
    let vs : List ℕ = all_flat rs in
    let ds : List CountRow = all_rows 0 rs in
    let ws : List RuleRow = rule_rows 0 0 rs in
    let entries : s.entries ≡ vs ++ drop (0 + length vs) xs = ap (λ (t : Store). t.entries) put ∙ all.laid.entries ∙ in_front xs vs (omega (arith, all_flat_length rs, within.entries, full.2)) in
    let counts : s.counts ≡ ds ++ drop (0 + length ds) cs = ap (λ (t : Store). t.counts) put ∙ all.laid.counts ∙ in_front cs ds (omega (arith, all_rows_length 0 rs, within.counts, full.1)) in
    let rules : s.rules ≡ ws ++ drop (0 + length ws) rows = ap (λ (t : Store). t.rules) put ∙ all.rules ∙ in_front rows ws (omega (arith, rule_rows_length 0 0 rs, within.rules, full.0)) in
    let first : take (length rs) s.rules ≡ ws = ap (take (length rs)) rules ∙ take_at ws (drop (0 + length ws) rows) (length rs) (rule_rows_length 0 0 rs) in
    ap (λ (l : List RuleRow). decode l s.counts s.entries) first ∙ decode_back rs s.entries (drop (0 + length vs) xs) s.counts (drop (0 + length ds) cs) 0 0 entries counts
