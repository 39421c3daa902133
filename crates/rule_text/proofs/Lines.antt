-- The texts that the code writes, put together, are the lines of the writing.
use Rattle.std.proofs.Common.{◌≡◌, ℕ, suc, ◌+◌, ◌<◌, ◌≤◌, List, [], ◌∷◌, ◌++◌, length, get_or, drop, codes, decimal, sym, refl, ap, ◌∙◌, append_assoc, append-nil}
use Rattle.std.proofs.lemmas.List.{at_drop_more, at_drop_all}
use Rattle.std.proofs.lemmas.Grind.{flat_map-append}
use Rattle.rules.specs.declared.CountRow.{CountRow}
use Rattle.rules.specs.declared.RuleRow.{RuleRow}
use Rattle.rules.specs.Rules.{Item, count, Rule}
use Rattle.rules.specs.Storage.{run, choices, items, rule_of, decode}
use Rattle.rule_text.specs.declared.Spacing.{Spacing}
use Rattle.rule_text.specs.declared.Spacing.TheVariants.{After, Before}
use Rattle.rule_text.specs.Writing.{numerals, item_tokens, items_tokens, rule_tokens, header_tokens, spaced, line_text, rule_lines, writing}
use Rattle.rule_text.specs.Padding.{padded, all_padded}

choices_tokens : (cs : List ℕ) → items_tokens (choices cs) ≡ numerals cs
choices_tokens [] = refl
choices_tokens (c ∷ cs) = ap (λ (r : List (List ℕ)). decimal c ∷ r) (choices_tokens cs)

-- items, one part after the other
side_append : (s : Spacing) (cs : List ℕ) (is : List Item) → all_padded s (items_tokens (choices cs ++ is)) ≡ all_padded s (numerals cs) ++ all_padded s (items_tokens is)
side_append s cs is =
    ap (all_padded s) (flat_map-append item_tokens (choices cs) is ∙ ap (λ (r : List (List ℕ)). r ++ items_tokens is) (choices_tokens cs)) ∙
    flat_map-append (padded s) (numerals cs) (items_tokens is)

-- choices, one by one
pub choices_more : (s : Spacing) (cs : List ℕ) (i : ℕ) → i < length cs → all_padded s (numerals (drop i cs)) ≡ padded s (decimal (get_or cs i 0)) ++ all_padded s (numerals (drop (i + 1) cs))
choices_more s cs i h = at_drop_more (λ (xs : List ℕ). all_padded s (numerals xs)) cs i 0 h

pub choices_all : (s : Spacing) (cs : List ℕ) (i : ℕ) → length cs ≤ i → all_padded s (numerals (drop i cs)) ≡ []
choices_all s cs i h = at_drop_all (λ (xs : List ℕ). all_padded s (numerals xs)) cs i h

-- a count
pub count_text : (s : Spacing) (k m : ℕ) (cs : List ℕ) → all_padded s (item_tokens (count k m cs)) ≡ padded s (codes "{") ++ ((padded s (decimal k) ++ padded s (decimal m)) ++ (all_padded s (numerals cs) ++ padded s (codes "}")))
count_text s k m cs = rw (flat_map-append (padded s) (numerals cs) (codes "}" ∷ []), append-nil, append_assoc)

-- a count row of a side: the choices before it, l, and the count of the choices cs
pub row_text : (s : Spacing) (xs : List ℕ) (a b : ℕ) (ks : List CountRow) (i : ℕ) (d : CountRow) (l cs : List ℕ) → i < length ks → l ≡ run a (get_or ks i d).choices.start xs → cs ≡ run (get_or ks i d).choices.start (get_or ks i d).choices.end xs → all_padded s (items_tokens (items xs a b (drop i ks))) ≡ (all_padded s (numerals l) ++ all_padded s (item_tokens (count (get_or ks i d).lower (get_or ks i d).upper cs))) ++ all_padded s (items_tokens (items xs (get_or ks i d).choices.end b (drop (i + 1) ks)))
row_text s xs a b ks i d l cs h el ec =
    let k : CountRow = get_or ks i d in
    let rest : List Item = items xs k.choices.end b (drop (i + 1) ks) in
    at_drop_more (λ (js : List CountRow). all_padded s (items_tokens (items xs a b js))) ks i d h ∙
    rw (← el, ← ec) (side_append s l (count k.lower k.upper cs ∷ rest)) ∙
    ap (λ (y : List ℕ). all_padded s (numerals l) ++ y) (flat_map-append (padded s) (item_tokens (count k.lower k.upper cs)) (items_tokens rest)) ∙
    sym (append_assoc (all_padded s (numerals l)) (all_padded s (item_tokens (count k.lower k.upper cs))) (all_padded s (items_tokens rest)))

-- past the last count row the choices l are left
pub rest_text : (s : Spacing) (xs : List ℕ) (a b : ℕ) (ks : List CountRow) (i : ℕ) (l : List ℕ) → length ks ≤ i → l ≡ run a b xs → all_padded s (items_tokens (items xs a b (drop i ks))) ≡ all_padded s (numerals l)
rest_text s xs a b ks i l h el =
    at_drop_all (λ (js : List CountRow). all_padded s (items_tokens (items xs a b js))) ks i h ∙
    ap (all_padded s) (choices_tokens (run a b xs)) ∙
    ap (λ (y : List ℕ). all_padded s (numerals y)) (sym el)

-- one space between any two tokens
spaced_before : (t : List ℕ) (ts : List (List ℕ)) → spaced (t ∷ ts) ≡ t ++ all_padded Before ts
spaced_before t [] = sym (append-nil t)
spaced_before t (u ∷ ts) = ap (λ (r : List ℕ). t ++ (codes " " ++ r)) (spaced_before u ts)

with_space : (t rest more : List ℕ) → t ++ (codes " " ++ (rest ++ more)) ≡ ((t ++ codes " ") ++ rest) ++ more
with_space t rest more = sym (append_assoc (t ++ codes " ") rest more ∙ append_assoc t (codes " ") (rest ++ more))

spaced_after : (ts : List (List ℕ)) (t : List ℕ) (us : List (List ℕ)) → spaced (ts ++ (t ∷ us)) ≡ all_padded After ts ++ spaced (t ∷ us)
spaced_after [] t us = refl
spaced_after (x ∷ []) t us = with_space x [] (spaced (t ∷ us))
spaced_after (x ∷ y ∷ ts) t us =
    ap (λ (r : List ℕ). x ++ (codes " " ++ r)) (spaced_after (y ∷ ts) t us) ∙ with_space x (all_padded After (y ∷ ts)) (spaced (t ∷ us))

-- the line of a rule
pub text_of_rule : (r : Rule) → line_text (rule_tokens r) ≡ all_padded After (items_tokens r.body) ++ (codes "," ++ (all_padded Before (items_tokens r.head) ++ codes "\n"))
text_of_rule r =
    ap (λ (y : List ℕ). y ++ codes "\n") (spaced_after (items_tokens r.body) (codes ",") (items_tokens r.head) ∙ ap (λ (y : List ℕ). all_padded After (items_tokens r.body) ++ y) (spaced_before (codes ",") (items_tokens r.head))) ∙
    append_assoc (all_padded After (items_tokens r.body)) (codes "," ++ all_padded Before (items_tokens r.head)) (codes "\n")

header_text : (n m : ℕ) → line_text (header_tokens n m) ≡ (codes "p " ++ decimal n) ++ ((codes " " ++ decimal m) ++ codes "\n")
header_text n m = ap (λ (y : List ℕ). codes "p " ++ y) (append_assoc (decimal n) (codes " " ++ decimal m) (codes "\n"))

-- the lines of the rules, one by one
pub rules_more : (rs : List RuleRow) (cs : List CountRow) (xs : List ℕ) (i : ℕ) (d : RuleRow) → i < length rs → rule_lines (decode (drop i rs) cs xs) ≡ line_text (rule_tokens (rule_of cs xs (get_or rs i d))) ++ rule_lines (decode (drop (i + 1) rs) cs xs)
rules_more rs cs xs i d h = at_drop_more (λ (ys : List RuleRow). rule_lines (decode ys cs xs)) rs i d h

pub rules_all : (rs : List RuleRow) (cs : List CountRow) (xs : List ℕ) (i : ℕ) → length rs ≤ i → rule_lines (decode (drop i rs) cs xs) ≡ []
rules_all rs cs xs i h = at_drop_all (λ (ys : List RuleRow). rule_lines (decode ys cs xs)) rs i h

pub length_decode : (rs : List RuleRow) (cs : List CountRow) (xs : List ℕ) → length (decode rs cs xs) ≡ length rs
length_decode [] cs xs = refl
length_decode (r ∷ rs) cs xs = ap (λ (k : ℕ). suc k) (length_decode rs cs xs)

-- the whole, by the number of rows
pub writing_text : (n : ℕ) (rs : List RuleRow) (cs : List CountRow) (xs : List ℕ) → writing n (decode rs cs xs) ≡ ((codes "p " ++ decimal n) ++ ((codes " " ++ decimal (length rs)) ++ codes "\n")) ++ rule_lines (decode rs cs xs)
unfolding writing
writing_text n rs cs xs =
    ap (λ (m : ℕ). line_text (header_tokens n m) ++ rule_lines (decode rs cs xs)) (length_decode rs cs xs) ∙
    ap (λ (y : List ℕ). y ++ rule_lines (decode rs cs xs)) (header_text n (length rs))
