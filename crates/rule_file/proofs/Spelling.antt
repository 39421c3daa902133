-- Bytes spell at most one file.
use Rattle.std.proofs.Common.{◌≡◌, ℕ, List, [], ◌∷◌, ◌++◌, sym, ap, ◌∙◌, subst, append_assoc, append-nil}
use Rattle.rules.specs.Rules.{Item, choice, count, Rule}
use Rattle.scan.specs.Bytes.{file_words}
use Rattle.scan.proofs.Grammar.{every_file_reads, files_read_once}
use Rattle.rule_file.specs.declared.line.Part.{Part}
use Rattle.rule_file.specs.declared.line.Part.TheVariants as part
use Rattle.rule_file.specs.Files.{SpelledOnce}
use Rattle.rule_file.specs.Form.{all_written, member_parts, items_parts, rules_parts, form, words_only, SpellsFile}
use Rattle.rule_file.proofs.Walks.{form_walk, walk_once}

pub spelled_words : (bs : List ℕ) (n m : ℕ) (rs : List Rule) → SpellsFile bs n m rs → words_only (file_words bs) ≡ all_written (form n m rs)
spelled_words bs n m rs x = ap words_only (files_read_once bs (file_words bs) x.0 (every_file_reads bs) x.1) ∙ x.2

-- the rules that parts make: those done, the body, the items and the count in the making
abbrev gather : List Rule → List Item → List Item → ℕ → ℕ → List ℕ → List Part → List Rule
gather ds b is k m cs [] = ds
gather ds b is k m cs (part.HeaderLine ∷ ps) = gather ds b is k m cs ps
gather ds b is k m cs (part.Header ∷ ps) = gather ds b is k m cs ps
gather ds b is k m cs (part.Size v ∷ ps) = gather ds b is k m cs ps
gather ds b is k m cs (part.Rules v ∷ ps) = gather ds b is k m cs ps
gather ds b is k m cs (part.HeaderEnd ∷ ps) = gather ds b is k m cs ps
gather ds b is k m cs (part.RuleLine ∷ ps) = gather ds [] [] k m cs ps
gather ds b is k m cs (part.Choice v ∷ ps) = gather ds b (is ++ (choice v ∷ [])) k m cs ps
gather ds b is k m cs (part.CountOpen ∷ ps) = gather ds b is k m [] ps
gather ds b is k m cs (part.Lower v ∷ ps) = gather ds b is v m cs ps
gather ds b is k m cs (part.Upper v ∷ ps) = gather ds b is k v cs ps
gather ds b is k m cs (part.Member v ∷ ps) = gather ds b is k m (cs ++ (v ∷ [])) ps
gather ds b is k m cs (part.CountClose ∷ ps) = gather ds b (is ++ (count k m cs ∷ [])) k m cs ps
gather ds b is k m cs (part.Comma ∷ ps) = gather ds is [] k m cs ps
gather ds b is k m cs (part.RuleEnd ∷ ps) = gather (ds ++ (record { body = b; head = is } ∷ [])) b is k m cs ps
gather ds b is k m cs (part.End ∷ ps) = gather ds b is k m cs ps

gather_members : (ds : List Rule) (b is : List Item) (k m : ℕ) (cs vs : List ℕ) (z : List Part) → gather ds b is k m cs (member_parts vs z) ≡ gather ds b is k m (cs ++ vs) z
gather_members ds b is k m cs [] z = ap (λ (y : List ℕ). gather ds b is k m y z) (sym (append-nil cs))
gather_members ds b is k m cs (v ∷ vs) z = gather_members ds b is k m (cs ++ (v ∷ [])) vs z ∙ ap (λ (y : List ℕ). gather ds b is k m y z) (append_assoc cs (v ∷ []) vs)

-- whatever count was made last
abbrev Gathers : List Rule → List Item → List Item → List Part → List Rule → Type 0
Gathers ds b is z rs = (k m : ℕ) (cs : List ℕ) → gather ds b is k m cs z ≡ rs

gather_items : (ds : List Rule) (b is js : List Item) (z : List Part) (rs : List Rule) → Gathers ds b (is ++ js) z rs → Gathers ds b is (items_parts js z) rs
gather_items ds b is [] z rs g k m cs = ap (λ (y : List Item). gather ds b y k m cs z) (sym (append-nil is)) ∙ g k m cs
gather_items ds b is (choice c ∷ js) z rs g k m cs =
    gather_items ds b (is ++ (choice c ∷ [])) js z rs (subst (λ (y : List Item). Gathers ds b y z rs) (sym (append_assoc is (choice c ∷ []) js)) g) k m cs
gather_items ds b is (count lo hi vs ∷ js) z rs g k m cs =
    gather_members ds b is lo hi [] vs (part.CountClose ∷ items_parts js z) ∙
    gather_items ds b (is ++ (count lo hi vs ∷ [])) js z rs (subst (λ (y : List Item). Gathers ds b y z rs) (sym (append_assoc is (count lo hi vs ∷ []) js)) g) lo hi vs

gather_rules : (ds rs : List Rule) (b is : List Item) → Gathers ds b is (rules_parts rs (part.End ∷ [])) (ds ++ rs)
gather_rules ds [] b is k m cs = sym (append-nil ds)
gather_rules ds (r ∷ rs) b is k m cs =
    gather_items ds [] [] r.body (part.Comma ∷ items_parts r.head (part.RuleEnd ∷ rules_parts rs (part.End ∷ []))) (ds ++ (r ∷ rs))
    (gather_items ds r.body [] r.head (part.RuleEnd ∷ rules_parts rs (part.End ∷ [])) (ds ++ (r ∷ rs))
    (λ k m cs. gather_rules (ds ++ (r ∷ [])) rs r.body r.head k m cs ∙ append_assoc ds (r ∷ []) rs)) k m cs

-- what a form's parts say
abbrev rules_of : List Part → List Rule
rules_of ps = gather [] [] [] 0 0 [] ps

rules_form : (n m : ℕ) (rs : List Rule) → rules_of (form n m rs) ≡ rs
rules_form n m rs = gather_rules [] rs [] [] 0 0 []

pub same_form : (n m n' m' : ℕ) (rs rs' : List Rule) → form n m rs ≡ form n' m' rs' → (n ≡ n') × (m ≡ m') × (rs ≡ rs')
same_form n m n' m' rs rs' e = (cc, cc, sym (rules_form n m rs) ∙ ap rules_of e ∙ rules_form n' m' rs')

pub spelled_once : SpelledOnce
spelled_once bs n m n' m' rs rs' x y =
    same_form n m n' m' rs rs' (walk_once (form_walk n m rs) (form_walk n' m' rs') (sym (spelled_words bs n m rs x) ∙ spelled_words bs n' m' rs' y)).0
