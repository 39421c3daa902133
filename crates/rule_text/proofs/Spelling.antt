-- What is written reads back.
use Rattle.std.proofs.Common.{◌≡◌, ℕ, ◌+◌, ◌-◌, ◌*◌, ◌/◌, ◌%◌, ◌<◌, ◌≤◌, ◌≢◌, List, [], ◌∷◌, ◌++◌, length, codes, decimal, sym, refl, ap, ◌∙◌, subst, append_assoc, append-nil, arith}
use Rattle.std.specs.List.{All}
use Rattle.std.proofs.lemmas.Fmt.{decimal_by_steps}
use Rattle.std.proofs.lemmas.List.Elements.{All-nil, All-cons, All-head, All-tail, All-append, All-weaker}
use Rattle.scan.specs.Text.{First, IsDigit, NoDigit, InOneLine, value, Mark, an_opening, a_closing, a_comma, Spells, nothing, space, mark, digits, SpellsLine, headed, unheaded, ReadsFrom, file_end, whole_line}
use Rattle.scan.specs.Words.{Word, line, header, number, opening, closing, comma, feed, end, Placed}
use Rattle.rules.specs.Rules.{Item, choice, count, Rule}
use Rattle.rule_file.specs.declared.line.Part.{Part}
use Rattle.rule_file.specs.declared.line.Part.TheVariants as part
use Rattle.rule_file.specs.Form.{all_written, member_parts, items_parts, rules_parts, rule_parts, words_only, AllChoices, GoodItem, GoodItems, GoodRules}
use Rattle.rule_text.specs.Writing.{numerals, item_tokens, items_tokens, rule_tokens, spaced, line_text, header_tokens, rule_lines, writing}
use Rattle.rule_text.specs.Back.{Small, SmallItem, SmallRule, WritingsReadBack, WritingsAreFiles}

-- Digits.

value_more : (v : ℕ) (t : List ℕ) (b : ℕ) → value v (t ++ (b ∷ [])) ≡ value v t * 10 + (b - 48)
value_more v [] b = refl
value_more v (x ∷ t) b = value_more (v * 10 + (x - 48)) t b

-- digits of that value, at least one
abbrev Numeral : ℕ → List ℕ → Type 0
Numeral n ds = (d : ℕ) × (t : List ℕ) × (ds ≡ d ∷ t) × All IsDigit (d ∷ t) × (value 0 (d ∷ t) ≡ n)

numeral : (n : ℕ) → Small n → Numeral n (decimal n)
numeral n h = decimal_by_steps Numeral one_digit one_more n h
  where
    one_digit : (n : ℕ) → n < 10 → Numeral n ((48 + n) ∷ [])
    one_digit n l = (48 + n, [], refl, All-cons IsDigit (48 + n) [] (omega arith, omega arith) (All-nil IsDigit), omega arith)

    one_more : (n : ℕ) (ds : List ℕ) → 10 ≤ n → Numeral (n / 10) ds → Numeral n (ds ++ ((48 + n % 10) ∷ []))
    one_more n ds l x =
        let g = value_more (0 * 10 + (x.0 - 48)) x.1 (48 + n % 10) in
        let k = x.4 in (
          x.0,
          x.1 ++ ((48 + n % 10) ∷ []),
          ap (λ (z : List ℕ). z ++ ((48 + n % 10) ∷ [])) x.2,
          All-append IsDigit (x.0 ∷ x.1) ((48 + n % 10) ∷ []) x.3 (All-cons IsDigit (48 + n % 10) [] (omega arith, omega arith) (All-nil IsDigit)),
          omega arith,
        )

-- Lines of the grammar.

-- Tokens, each with its word.

abbrev Spelt : ℕ → List ℕ → List Word → Type 0
Spelt i t vs = (ws : List Placed) × Spells i t ws × (words_only ws ≡ vs)

record Tells (t : List ℕ) (w : Word) : Type 0 where
  -- followed by what is no digit, it is read as its word
  spells : (i : ℕ) (rest : List ℕ) (vs : List Word) → First NoDigit rest → ((j : ℕ) → Spelt j rest vs) → Spelt i (t ++ rest) (w ∷ vs)
  one_line : InOneLine t
  -- and it opens no header and no comment
  first : ℕ
  after : List ℕ
  starts : t ≡ first ∷ after
  plain : (first ≢ 112) × (first ≢ 99)

number_tells : (n : ℕ) → Small n → Tells (decimal n) (number n)
number_tells n h =
    let x = numeral n h in
    let digit = All-head IsDigit x.0 x.1 x.3 in
    record {
      spells = λ i rest vs apart k.
          let r = k (i + length (x.0 ∷ x.1)) in (
            (i, number (value 0 (x.0 ∷ x.1))) ∷ r.0,
            subst (λ (z : List ℕ). Spells i (z ++ rest) ((i, number (value 0 (x.0 ∷ x.1))) ∷ r.0)) (sym x.2) (digits i x.0 x.1 rest r.0 x.3 apart r.1),
            ap (λ (z : ℕ). number z ∷ words_only r.0) x.4 ∙ ap (λ (z : List Word). number n ∷ z) r.2,
          );
      one_line = subst InOneLine (sym x.2) (All-weaker IsDigit (λ b. b ≢ 10) (λ b d e. omega (arith, d.0)) (x.0 ∷ x.1) x.3);
      first = x.0;
      after = x.1;
      starts = x.2;
      plain = ((λ e. omega (arith, digit.1)), λ e. omega (arith, digit.1));
    }

mark_tells : (b : ℕ) (w : Word) → Mark b w → (b ≢ 10) × (b ≢ 112) × (b ≢ 99) → Tells (b ∷ []) w
mark_tells b w m h =
    record {
      spells = λ i rest vs apart k. let r = k (i + 1) in ((i, w) ∷ r.0, mark i b w rest r.0 m r.1, ap (λ (z : List Word). w ∷ z) r.2);
      one_line = All-cons (λ b. b ≢ 10) b [] h.0 (All-nil (λ b. b ≢ 10));
      first = b;
      after = [];
      starts = refl;
      plain = (h.1, h.2);
    }

abbrev AllTell : List (List ℕ) → List Word → Type 0
AllTell [] [] = Unit {0}
AllTell [] (w ∷ ws) = ⊥
AllTell (t ∷ ts) [] = ⊥
AllTell (t ∷ ts) (w ∷ ws) = Tells t w × AllTell ts ws

tell_append : (ts us : List (List ℕ)) (vs ws : List Word) → AllTell ts vs → AllTell us ws → AllTell (ts ++ us) (vs ++ ws)
tell_append [] us [] ws a b = b
tell_append [] us (v ∷ vs) ws a b = absurd a
tell_append (t ∷ ts) us [] ws a b = absurd a
tell_append (t ∷ ts) us (v ∷ vs) ws a b = (a.0, tell_append ts us vs ws a.1 b)

-- Tokens with spaces between them.

no_space : NoDigit 32
no_space d = omega (arith, d.0)

spell : (ts : List (List ℕ)) (vs : List Word) → AllTell ts vs → (i : ℕ) → Spelt i (spaced ts) vs
spell [] [] a i = ([], nothing i, refl)
spell [] (v ∷ vs) a i = absurd a
spell (t ∷ ts) [] a i = absurd a
spell (t ∷ []) (v ∷ []) a i = subst (λ (z : List ℕ). Spelt i z (v ∷ [])) (append-nil t) (a.0.spells i [] [] tt (λ j. ([], nothing j, refl)))
spell (t ∷ []) (v ∷ w ∷ vs) a i = absurd a.1
spell (t ∷ u ∷ ts) (v ∷ vs) a i =
    a.0.spells i (32 ∷ spaced (u ∷ ts)) vs no_space (λ j. let r = spell (u ∷ ts) vs a.1 (j + 1) in (r.0, space j (spaced (u ∷ ts)) r.0 r.1, r.2))

spaced_line : (ts : List (List ℕ)) (vs : List Word) → AllTell ts vs → InOneLine (spaced ts)
spaced_line [] vs a = All-nil (λ b. b ≢ 10)
spaced_line (t ∷ ts) [] a = absurd a
spaced_line (t ∷ []) (v ∷ vs) a = a.0.one_line
spaced_line (t ∷ u ∷ ts) (v ∷ vs) a =
    All-append (λ b. b ≢ 10) t (32 ∷ spaced (u ∷ ts)) a.0.one_line (All-cons (λ b. b ≢ 10) 32 (spaced (u ∷ ts)) (λ e. omega arith) (spaced_line (u ∷ ts) vs a.1))

first_of : (P : ℕ → Type 0) (t : List ℕ) (b : ℕ) (bs rest : List ℕ) → t ≡ b ∷ bs → P b → First P (t ++ rest)
first_of P t b bs rest e p = subst (λ (z : List ℕ). First P (z ++ rest)) (sym e) p

spaced_first : (P : ℕ → Type 0) (ts : List (List ℕ)) (vs : List Word) → AllTell ts vs → ((b : ℕ) → (b ≢ 112) × (b ≢ 99) → P b) → First P (spaced ts)
spaced_first P [] vs a p = tt
spaced_first P (t ∷ ts) [] a p = absurd a
spaced_first P (t ∷ []) (v ∷ vs) a p =
    subst (First P) (append-nil t) (first_of P t a.0.first a.0.after [] a.0.starts (p a.0.first a.0.plain))
spaced_first P (t ∷ u ∷ ts) (v ∷ vs) a p =
    first_of P t a.0.first a.0.after (32 ∷ spaced (u ∷ ts)) a.0.starts (p a.0.first a.0.plain)

-- Lines.

abbrev ReadAs : ℕ → List ℕ → List Word → Type 0
ReadAs i bs vs = (ws : List Placed) × ReadsFrom i bs ws × (words_only ws ≡ vs)

words_append : (us ws : List Placed) → words_only (us ++ ws) ≡ words_only us ++ words_only ws
words_append [] ws = refl
words_append (u ∷ us) ws = ap (λ (z : List Word). u.1 ∷ z) (words_append us ws)

one_line_reads : (i : ℕ) (t bs : List ℕ) (us : List Placed) (vs ws : List Word) → InOneLine t → SpellsLine i t us → words_only us ≡ vs → ((j : ℕ) → ReadAs j bs ws) → ReadAs i ((t ++ codes "\n") ++ bs) (line ∷ (vs ++ (feed ∷ ws)))
one_line_reads i t bs us vs ws l s e k =
    let r = k (i + length t + 1) in
    let all : List Placed = (i, line) ∷ (us ++ ((i + length t, feed) ∷ r.0)) in (
      all,
      subst (λ (z : List ℕ). ReadsFrom i z all) (sym (append_assoc t (codes "\n") bs)) (whole_line i t bs us r.0 l s r.1),
      ap (λ (z : List Word). line ∷ z) (words_append us ((i + length t, feed) ∷ r.0) ∙ ap (λ (z : List Word). z ++ (feed ∷ words_only r.0)) e ∙ ap (λ (z : List Word). vs ++ (feed ∷ z)) r.2),
    )

tokens_read : (i : ℕ) (ts : List (List ℕ)) (vs : List Word) (bs : List ℕ) (ws : List Word) → AllTell ts vs → ((j : ℕ) → ReadAs j bs ws) → ReadAs i (line_text ts ++ bs) (line ∷ (vs ++ (feed ∷ ws)))
tokens_read i ts vs bs ws a k =
    let s = spell ts vs a i in
    one_line_reads i (spaced ts) bs s.0 vs ws (spaced_line ts vs a) (unheaded i (spaced ts) s.0 (spaced_first (λ b. b ≢ 112) ts vs a (λ b h. h.0)) (spaced_first (λ b. b ≢ 99) ts vs a (λ b h. h.1)) s.1) s.2 k

header_reads : (i n m : ℕ) (bs : List ℕ) (ws : List Word) → Small n → Small m → ((j : ℕ) → ReadAs j bs ws) → ReadAs i (line_text (header_tokens n m) ++ bs) (line ∷ header ∷ number n ∷ number m ∷ feed ∷ ws)
header_reads i n m bs ws hn hm k =
    let ts : List (List ℕ) = decimal n ∷ decimal m ∷ [] in
    let vs : List Word = number n ∷ number m ∷ [] in
    let a : AllTell ts vs = (number_tells n hn, (number_tells m hm, tt)) in
    let s = spell ts vs a (i + 1 + 1) in
    one_line_reads i (spaced (header_tokens n m)) bs ((i, header) ∷ s.0) (header ∷ vs) ws
    (All-cons (λ b. b ≢ 10) 112 (32 ∷ spaced ts) (λ e. omega arith) (All-cons (λ b. b ≢ 10) 32 (spaced ts) (λ e. omega arith) (spaced_line ts vs a)))
    (headed i (32 ∷ spaced ts) s.0 (space (i + 1) (spaced ts) s.0 s.1))
    (ap (λ (z : List Word). header ∷ z) s.2) k

-- Rules.

abbrev numbers : List ℕ → List Word
numbers [] = []
numbers (c ∷ cs) = number c ∷ numbers cs

abbrev item_words : Item → List Word
item_words (choice c) = number c ∷ []
item_words (count k m cs) = opening ∷ number k ∷ number m ∷ (numbers cs ++ (closing ∷ []))

abbrev items_words : List Item → List Word
items_words [] = []
items_words (i ∷ is) = item_words i ++ items_words is

abbrev rule_words : Rule → List Word
rule_words r = items_words r.body ++ (comma ∷ items_words r.head)

numbers_tell : (cs : List ℕ) → All Small cs → AllTell (numerals cs) (numbers cs)
numbers_tell [] h = tt
numbers_tell (c ∷ cs) h = (number_tells c (All-head Small c cs h), numbers_tell cs (All-tail Small c cs h))

item_tells : (i : Item) → SmallItem i → AllTell (item_tokens i) (item_words i)
item_tells (choice c) h = (number_tells c h, tt)
item_tells (count k m cs) h = (
  mark_tells 123 opening an_opening ((λ e. omega arith), (λ e. omega arith), λ e. omega arith),
  (
    number_tells k h.0,
    (
      number_tells m h.1,
      tell_append (numerals cs) (codes "}" ∷ []) (numbers cs) (closing ∷ []) (numbers_tell cs h.2) (mark_tells 125 closing a_closing ((λ e. omega arith), (λ e. omega arith), λ e. omega arith), tt),
    ),
  ),
)

items_tell : (is : List Item) → All SmallItem is → AllTell (items_tokens is) (items_words is)
items_tell [] h = tt
items_tell (i ∷ is) h = tell_append (item_tokens i) (items_tokens is) (item_words i) (items_words is) (item_tells i (All-head SmallItem i is h)) (items_tell is (All-tail SmallItem i is h))

rule_tells : (r : Rule) → SmallRule r → AllTell (rule_tokens r) (rule_words r)
rule_tells r h =
    tell_append (items_tokens r.body) (codes "," ∷ items_tokens r.head) (items_words r.body) (comma ∷ items_words r.head) (items_tell r.body h.0) (mark_tells 44 comma a_comma ((λ e. omega arith), (λ e. omega arith), λ e. omega arith), items_tell r.head h.1)

-- the words of the form
members_form : (cs : List ℕ) (ps : List Part) → all_written (member_parts cs ps) ≡ numbers cs ++ all_written ps
members_form [] ps = refl
members_form (c ∷ cs) ps = ap (λ (z : List Word). number c ∷ z) (members_form cs ps)

items_form : (is : List Item) (ps : List Part) → all_written (items_parts is ps) ≡ items_words is ++ all_written ps
items_form [] ps = refl
items_form (choice c ∷ is) ps = ap (λ (z : List Word). number c ∷ z) (items_form is ps)
items_form (count k m cs ∷ is) ps =
    ap (λ (z : List Word). opening ∷ number k ∷ number m ∷ z)
    (members_form cs (part.CountClose ∷ items_parts is ps) ∙
    ap (λ (z : List Word). numbers cs ++ (closing ∷ z)) (items_form is ps) ∙
    sym (append_assoc (numbers cs ++ (closing ∷ [])) (items_words is) (all_written ps) ∙ append_assoc (numbers cs) (closing ∷ []) (items_words is ++ all_written ps)))

rule_form : (r : Rule) (ps : List Part) → all_written (rule_parts r ps) ≡ line ∷ (rule_words r ++ (feed ∷ all_written ps))
rule_form r ps =
    ap (λ (z : List Word). line ∷ z)
    (items_form r.body (part.Comma ∷ items_parts r.head (part.RuleEnd ∷ ps)) ∙
    ap (λ (z : List Word). items_words r.body ++ (comma ∷ z)) (items_form r.head (part.RuleEnd ∷ ps)) ∙
    sym (append_assoc (items_words r.body) (comma ∷ items_words r.head) (feed ∷ all_written ps)))

rules_read : (rs : List Rule) → All SmallRule rs → (i : ℕ) → ReadAs i (rule_lines rs) (all_written (rules_parts rs (part.End ∷ [])))
rules_read [] h i = ((i, end) ∷ [], file_end i, refl)
rules_read (r ∷ rs) h i =
    let k = tokens_read i (rule_tokens r) (rule_words r) (rule_lines rs) (all_written (rules_parts rs (part.End ∷ []))) (rule_tells r (All-head SmallRule r rs h)) (λ j. rules_read rs (All-tail SmallRule r rs h) j) in
    (k.0, k.1, k.2 ∙ sym (rule_form r (rules_parts rs (part.End ∷ []))))

pub reads_back : WritingsReadBack
unfolding writing
reads_back n rs hn hm h = header_reads 0 n (length rs) (rule_lines rs) (all_written (rules_parts rs (part.End ∷ []))) hn hm (λ j. rules_read rs h j)

-- Within the limits all numbers are small.

choices_small : (n : ℕ) (cs : List ℕ) → n ≤ 4096 → AllChoices n cs → All Small cs
choices_small n [] s h = All-nil Small
choices_small n (c ∷ cs) s h = All-cons Small c cs (omega (arith, h.0.1)) (choices_small n cs s h.1)

item_small : (n : ℕ) (i : Item) → n ≤ 4096 → GoodItem n i → SmallItem i
item_small n (choice c) s h = omega (arith, h.1)
item_small n (count k m cs) s h = (omega (arith, h.0), omega (arith, h.1), choices_small n cs s h.2)

items_small : (n : ℕ) (is : List Item) → n ≤ 4096 → GoodItems n is → All SmallItem is
items_small n [] s h = All-nil SmallItem
items_small n (i ∷ is) s h = All-cons SmallItem i is (item_small n i s h.0) (items_small n is s h.1)

rules_small : (n : ℕ) (rs : List Rule) → n ≤ 4096 → GoodRules n rs → All SmallRule rs
rules_small n [] s h = All-nil SmallRule
rules_small n (r ∷ rs) s h = All-cons SmallRule r rs (items_small n r.body s h.0, items_small n r.head s h.1) (rules_small n rs s h.2)

pub are_files : WritingsAreFiles
are_files n rs w l =
    record { bytes = l; spelled = reads_back n rs (omega (arith, w.size)) (omega (arith, w.rules)) (rules_small n rs w.size w.good); within = w }
