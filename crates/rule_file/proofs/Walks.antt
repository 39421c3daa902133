-- The form as walks from state to state.
use Rattle.std.proofs.Common.{◌≡◌, ℕ, Bool, true, false, List, [], ◌∷◌, ◌++◌, Some, None, sym, refl, ap, ◌∙◌, subst}
use Rattle.rules.specs.Rules.{Item, choice as choice_item, count as count_item, Rule}
use Rattle.scan.specs.declared.Token.{Token}
use Rattle.scan.specs.declared.Token.TheVariants as tok
use Rattle.scan.specs.Scans.{word_of, final}
use Rattle.scan.specs.Words.{Word, line, header, stray, number, opening, closing, comma, feed, unknown, end, cut}
use Rattle.rule_file.specs.declared.line.Half.{Half}
use Rattle.rule_file.specs.declared.line.Half.TheVariants.{Body, Head}
use Rattle.rule_file.specs.declared.line.Part.{Part}
use Rattle.rule_file.specs.declared.line.Part.TheVariants as part
use Rattle.rule_file.specs.declared.line.State.{State}
use Rattle.rule_file.specs.declared.line.State.TheVariants as state
use Rattle.rule_file.specs.Causes.{Begins}
use Rattle.rule_file.specs.Form.{written_as, all_written, member_parts, item_parts, items_parts, rules_parts, form}
use Rattle.rule_file.specs.Reader.{Taken, row, plays, is_end}
use Rattle.rule_file.proofs.Clash.{clash}

pub data Step : State → Part → State → Type 0 where
  header_line : Step state.Start part.HeaderLine state.Header
  header_p : Step state.Header part.Header state.Size
  size : (n : ℕ) → Step state.Size (part.Size n) state.Rules
  rules : (m : ℕ) → Step state.Rules (part.Rules m) state.HeaderEnd
  header_end : Step state.HeaderEnd part.HeaderEnd state.Between
  rule_line : Step state.Between part.RuleLine (state.Items Body)
  file_end : Step state.Between part.End state.Over
  choice : (h : Half) (c : ℕ) → Step (state.Items h) (part.Choice c) (state.Items h)
  count_open : (h : Half) → Step (state.Items h) part.CountOpen (state.Lower h)
  lower : (h : Half) (k : ℕ) → Step (state.Lower h) (part.Lower k) (state.Upper h)
  upper : (h : Half) (m : ℕ) → Step (state.Upper h) (part.Upper m) (state.Members h)
  member : (h : Half) (c : ℕ) → Step (state.Members h) (part.Member c) (state.Members h)
  count_close : (h : Half) → Step (state.Members h) part.CountClose (state.Items h)
  to_head : Step (state.Items Body) part.Comma (state.Items Head)
  rule_end : Step (state.Items Head) part.RuleEnd state.Between

row_all :
    (P : Token → Taken → Type 0) (l e : Taken) (n : ℕ → Taken) (b s c h y f u : Taken) → P tok.Line l → P tok.End e → ((v : ℕ) → P (tok.Number v) (n v)) →
    P tok.Open b → P tok.Close s → P tok.Comma c → P tok.Header h → P tok.Stray y → P tok.Feed f → P tok.Cut u → (t : Token) →
    P t (row l e n b s c h y f u t)
row_all P l e n b s c h y f u pl pe pn pb ps pc ph py pf pu tok.Line = pl
row_all P l e n b s c h y f u pl pe pn pb ps pc ph py pf pu tok.End = pe
row_all P l e n b s c h y f u pl pe pn pb ps pc ph py pf pu (tok.Number v) = pn v
row_all P l e n b s c h y f u pl pe pn pb ps pc ph py pf pu tok.Open = pb
row_all P l e n b s c h y f u pl pe pn pb ps pc ph py pf pu tok.Close = ps
row_all P l e n b s c h y f u pl pe pn pb ps pc ph py pf pu tok.Comma = pc
row_all P l e n b s c h y f u pl pe pn pb ps pc ph py pf pu tok.Header = ph
row_all P l e n b s c h y f u pl pe pn pb ps pc ph py pf pu tok.Stray = py
row_all P l e n b s c h y f u pl pe pn pb ps pc ph py pf pu tok.Feed = pf
row_all P l e n b s c h y f u pl pe pn pb ps pc ph py pf pu tok.Cut = pu

-- what a state makes of a token is a step, whose part is written as that token
abbrev Fits : State → Token → Taken → Type 0
Fits s t None = Unit {0}
Fits s t (Some x) = Step s x.0 x.1 × (written_as x.0 ≡ word_of t)

fits : (s : State) (t : Token) → Fits s t (plays s t)
fits state.Start = row_all (Fits state.Start) _ _ _ _ _ _ _ _ _ _ (header_line, refl) tt (λ v. tt) tt tt tt tt tt tt tt
fits state.Header = row_all (Fits state.Header) _ _ _ _ _ _ _ _ _ _ tt tt (λ v. tt) tt tt tt (header_p, refl) tt tt tt
fits state.Size = row_all (Fits state.Size) _ _ _ _ _ _ _ _ _ _ tt tt (λ v. (size v, refl)) tt tt tt tt tt tt tt
fits state.Rules = row_all (Fits state.Rules) _ _ _ _ _ _ _ _ _ _ tt tt (λ v. (rules v, refl)) tt tt tt tt tt tt tt
fits state.HeaderEnd = row_all (Fits state.HeaderEnd) _ _ _ _ _ _ _ _ _ _ tt tt (λ v. tt) tt tt tt tt tt (header_end, refl) tt
fits state.Between = row_all (Fits state.Between) _ _ _ _ _ _ _ _ _ _ (rule_line, refl) (file_end, refl) (λ v. tt) tt tt tt tt tt tt tt
fits (state.Items Body) =
    row_all (Fits (state.Items Body)) _ _ _ _ _ _ _ _ _ _ tt tt (λ v. (choice Body v, refl)) (count_open Body, refl) tt (to_head, refl) tt tt tt tt
fits (state.Items Head) =
    row_all (Fits (state.Items Head)) _ _ _ _ _ _ _ _ _ _ tt tt (λ v. (choice Head v, refl)) (count_open Head, refl) tt tt tt tt (rule_end, refl) tt
fits (state.Lower h) = row_all (Fits (state.Lower h)) _ _ _ _ _ _ _ _ _ _ tt tt (λ v. (lower h v, refl)) tt tt tt tt tt tt tt
fits (state.Upper h) = row_all (Fits (state.Upper h)) _ _ _ _ _ _ _ _ _ _ tt tt (λ v. (upper h v, refl)) tt tt tt tt tt tt tt
fits (state.Members h) =
    row_all (Fits (state.Members h)) _ _ _ _ _ _ _ _ _ _ tt tt (λ v. (member h v, refl)) tt (count_close h, refl) tt tt tt tt tt
fits state.Over = row_all (Fits state.Over) _ _ _ _ _ _ _ _ _ _ tt tt (λ v. tt) tt tt tt tt tt tt tt

pub plays_step : (s : State) (t : Token) (p : Part) (u : State) → plays s t ≡ Some (p, u) → Step s p u × (written_as p ≡ word_of t)
plays_step s t p u e = subst (Fits s t) e (fits s t)

-- which words end a file
abbrev ends_file : Word → Bool
ends_file line = false
ends_file header = false
ends_file stray = false
ends_file (number v) = false
ends_file opening = false
ends_file closing = false
ends_file comma = false
ends_file feed = false
ends_file unknown = false
ends_file end = true
ends_file cut = true

token_ends : (t : Token) → ends_file (word_of t) ≡ final t
token_ends tok.Line = refl
token_ends tok.End = refl
token_ends (tok.Number v) = refl
token_ends tok.Open = refl
token_ends tok.Close = refl
token_ends tok.Comma = refl
token_ends tok.Header = refl
token_ends tok.Stray = refl
token_ends tok.Feed = refl
token_ends tok.Cut = refl

part_ends : (p : Part) → ends_file (written_as p) ≡ is_end p
part_ends part.HeaderLine = refl
part_ends part.Header = refl
part_ends (part.Size v) = refl
part_ends (part.Rules v) = refl
part_ends part.HeaderEnd = refl
part_ends part.RuleLine = refl
part_ends (part.Choice v) = refl
part_ends part.CountOpen = refl
part_ends (part.Lower v) = refl
part_ends (part.Upper v) = refl
part_ends (part.Member v) = refl
part_ends part.CountClose = refl
part_ends part.Comma = refl
part_ends part.RuleEnd = refl
part_ends part.End = refl

-- a token that is taken ends the file if its part is the end
pub final_end : (s : State) (t : Token) (p : Part) (u : State) → plays s t ≡ Some (p, u) → final t ≡ is_end p
final_end s t p u e = sym (token_ends t) ∙ ap ends_file (sym (plays_step s t p u e).1) ∙ part_ends p

-- the token of a word; a word that has none goes with one that nothing takes
abbrev pub token_of : Word → Token
token_of line = tok.Line
token_of header = tok.Header
token_of stray = tok.Stray
token_of (number v) = tok.Number v
token_of opening = tok.Open
token_of closing = tok.Close
token_of comma = tok.Comma
token_of feed = tok.Feed
token_of unknown = tok.Cut
token_of end = tok.End
token_of cut = tok.Cut

pub step_plays : {s u : State} {p : Part} → Step s p u → plays s (token_of (written_as p)) ≡ Some (p, u)
step_plays header_line = refl
step_plays header_p = refl
step_plays (size n) = refl
step_plays (rules m) = refl
step_plays header_end = refl
step_plays rule_line = refl
step_plays file_end = refl
step_plays (choice Body c) = refl
step_plays (choice Head c) = refl
step_plays (count_open Body) = refl
step_plays (count_open Head) = refl
step_plays (lower h k) = refl
step_plays (upper h m) = refl
step_plays (member h c) = refl
step_plays (count_close h) = refl
step_plays to_head = refl
step_plays rule_end = refl

-- the part and the state of what is taken
abbrev pub part_of : Taken → Part
part_of None = part.End
part_of (Some x) = x.0

abbrev pub state_of : Taken → State
state_of None = state.Over
state_of (Some x) = x.1

-- a word is one part, and leads to one state
pub step_once : {s t u : State} {p q : Part} → Step s p t → Step s q u → written_as p ≡ written_as q → (p ≡ q) × (t ≡ u)
step_once {s} {t} {u} {p} {q} x y e =
    let g : ◌≡◌ {A = Taken} (Some (p, t)) (Some (q, u)) = sym (step_plays x) ∙ ap (λ (w : Word). plays s (token_of w)) e ∙ step_plays y in
    (ap part_of g, ap state_of g)

pub data Walk : State → List Part → State → Type 0 where
  here : (s : State) → Walk s [] s
  on : {s t u : State} {p : Part} {ps : List Part} → Step s p t → Walk t ps u → Walk s (p ∷ ps) u

pub walk_on : {s t u : State} {ps : List Part} {p : Part} → Walk s ps t → Step t p u → Walk s (ps ++ (p ∷ [])) u
walk_on (here s) x = on x (here _)
walk_on (on y w) x = on y (walk_on w x)

join : {s t u : State} {ps qs : List Part} → Walk s ps t → Walk t qs u → Walk s (ps ++ qs) u
join (here s) v = v
join (on x w) v = on x (join w v)

split : (ps : List Part) {rest : List Part} {s u : State} → Walk s (ps ++ rest) u → (t : State) × Walk s ps t × Walk t rest u
split [] {rest} {s} {u} w = (s, here s, w)
split (p ∷ ps) (on x w) = let r = split ps w in (r.0, on x r.1, r.2)

pub last_step : (ps : List Part) {p : Part} {s u : State} → Walk s (ps ++ (p ∷ [])) u → (t : State) × Walk s ps t × Step t p u
last_step ps w = let r = split ps w in (r.0, r.1, only r.2)
  where
    end_of : {s u : State} → Walk s [] u → s ≡ u
    end_of (here s) = refl

    only : {s u : State} {p : Part} → Walk s (p ∷ []) u → Step s p u
    only (on {s} {t} {u} {p} x v) = subst (Step s p) (end_of v) x

-- a file of the form is a walk from the start to the end
members_walk : (h : Half) (cs : List ℕ) {z : List Part} {u : State} → Walk (state.Members h) z u → Walk (state.Members h) (member_parts cs z) u
members_walk h [] w = w
members_walk h (c ∷ cs) w = on (member h c) (members_walk h cs w)

items_walk : (h : Half) (is : List Item) {z : List Part} {u : State} → Walk (state.Items h) z u → Walk (state.Items h) (items_parts is z) u
items_walk h [] w = w
items_walk h (choice_item c ∷ is) w = on (choice h c) (items_walk h is w)
items_walk h (count_item k m cs ∷ is) w =
    on (count_open h) (on (lower h k) (on (upper h m) (members_walk h cs (on (count_close h) (items_walk h is w)))))

rules_walk : (rs : List Rule) {z : List Part} {u : State} → Walk state.Between z u → Walk state.Between (rules_parts rs z) u
rules_walk [] w = w
rules_walk (r ∷ rs) w = on rule_line (items_walk Body r.body (on to_head (items_walk Head r.head (on rule_end (rules_walk rs w)))))

pub form_walk : (n m : ℕ) (rs : List Rule) → Walk state.Start (form n m rs) state.Over
form_walk n m rs = on header_line (on header_p (on (size n) (on (rules m) (on header_end (rules_walk rs (on file_end (here state.Over)))))))

-- what each state still has before it
abbrev Left : Half → List Part → Type 0
Left Head ps = (is : List Item) × (rs : List Rule) × (ps ≡ items_parts is (part.RuleEnd ∷ rules_parts rs (part.End ∷ [])))
Left Body ps = (is : List Item) × (js : List Item) × (rs : List Rule) × (ps ≡ items_parts is (part.Comma ∷ items_parts js (part.RuleEnd ∷ rules_parts rs (part.End ∷ []))))

abbrev Tail : State → List Part → Type 0
Tail state.Start ps = (n : ℕ) × (m : ℕ) × (rs : List Rule) × (ps ≡ form n m rs)
Tail state.Header ps = (n : ℕ) × (m : ℕ) × (rs : List Rule) × (part.HeaderLine ∷ ps ≡ form n m rs)
Tail state.Size ps = (n : ℕ) × (m : ℕ) × (rs : List Rule) × (part.HeaderLine ∷ part.Header ∷ ps ≡ form n m rs)
Tail state.Rules ps = (m : ℕ) × (rs : List Rule) × (ps ≡ part.Rules m ∷ part.HeaderEnd ∷ rules_parts rs (part.End ∷ []))
Tail state.HeaderEnd ps = (rs : List Rule) × (ps ≡ part.HeaderEnd ∷ rules_parts rs (part.End ∷ []))
Tail state.Between ps = (rs : List Rule) × (ps ≡ rules_parts rs (part.End ∷ []))
Tail (state.Items h) ps = Left h ps
Tail (state.Lower h) ps = (k : ℕ) × (m : ℕ) × (cs : List ℕ) × (z : List Part) × (ps ≡ part.Lower k ∷ part.Upper m ∷ member_parts cs (part.CountClose ∷ z)) × Left h z
Tail (state.Upper h) ps = (m : ℕ) × (cs : List ℕ) × (z : List Part) × (ps ≡ part.Upper m ∷ member_parts cs (part.CountClose ∷ z)) × Left h z
Tail (state.Members h) ps = (cs : List ℕ) × (z : List Part) × (ps ≡ member_parts cs (part.CountClose ∷ z)) × Left h z
Tail state.Over ps = ps ≡ []

item_tail : (h : Half) (i : Item) (z ps : List Part) → ps ≡ item_parts i z → Left h z → Left h ps
item_tail Head i z ps e t = (i ∷ t.0, t.1, e ∙ ap (item_parts i) t.2)
item_tail Body i z ps e t = (i ∷ t.0, t.1, t.2, e ∙ ap (item_parts i) t.3)

after : (p : Part) {ps qs : List Part} → ps ≡ qs → p ∷ ps ≡ p ∷ qs
after p e = ap (λ (z : List Part). p ∷ z) e

step_tail : {s u : State} {p : Part} (ps : List Part) → Step s p u → Tail u ps → Tail s (p ∷ ps)
step_tail ps header_line t = t
step_tail ps header_p t = t
step_tail ps (size n) t = (n, t.0, t.1, after part.HeaderLine (after part.Header (after (part.Size n) t.2)))
step_tail ps (rules m) t = (m, t.0, after (part.Rules m) t.1)
step_tail ps header_end t = (t.0, after part.HeaderEnd t.1)
step_tail ps rule_line t = (record { body = t.0; head = t.1 } ∷ t.2, after part.RuleLine t.3)
step_tail ps file_end t = ([], after part.End t)
step_tail ps (choice h c) t = item_tail h (choice_item c) ps (part.Choice c ∷ ps) refl t
step_tail ps (count_open h) t = item_tail h (count_item t.0 t.1 t.2) t.3 (part.CountOpen ∷ ps) (after part.CountOpen t.4) t.5
step_tail ps (lower h k) t = (k, t.0, t.1, t.2, after (part.Lower k) t.3, t.4)
step_tail ps (upper h m) t = (m, t.0, t.1, after (part.Upper m) t.2, t.3)
step_tail ps (member h c) t = (c ∷ t.0, t.1, after (part.Member c) t.2, t.3)
step_tail ps (count_close h) t = ([], ps, refl, t)
step_tail ps to_head t = ([], t.0, t.1, after part.Comma t.2)
step_tail ps rule_end t = ([], t.0, after part.RuleEnd t.1)

abbrev EndsOver : State → List Part → State → Type 0
EndsOver s ps u = u ≡ state.Over → Tail s ps

walk_tail : {s u : State} {ps : List Part} → Walk s ps u → EndsOver s ps u
walk_tail (here s) e = subst (λ (z : State). Tail z []) (sym e) refl
walk_tail (on {ps = ps} x w) e = step_tail ps x (walk_tail w e)

-- a walk to the end is a file of the form, and nothing else is
pub walk_form : {ps : List Part} → Walk state.Start ps state.Over → (n : ℕ) × (m : ℕ) × (rs : List Rule) × (ps ≡ form n m rs)
walk_form w = walk_tail w refl

-- from each state the end can be reached
abbrev to_end : Half → List Part
to_end Body = part.Comma ∷ part.RuleEnd ∷ part.End ∷ []
to_end Head = part.RuleEnd ∷ part.End ∷ []

half_walk : (h : Half) → Walk (state.Items h) (to_end h) state.Over
half_walk Body = on to_head (on rule_end (on file_end (here state.Over)))
half_walk Head = on rule_end (on file_end (here state.Over))

way_out : (s : State) → (ps : List Part) × Walk s ps state.Over
way_out state.Start = (_, form_walk 0 0 [])
way_out state.Header = (_, on header_p (on (size 0) (on (rules 0) (on header_end (on file_end (here state.Over))))))
way_out state.Size = (_, on (size 0) (on (rules 0) (on header_end (on file_end (here state.Over)))))
way_out state.Rules = (_, on (rules 0) (on header_end (on file_end (here state.Over))))
way_out state.HeaderEnd = (_, on header_end (on file_end (here state.Over)))
way_out state.Between = (_, on file_end (here state.Over))
way_out (state.Items h) = (_, half_walk h)
way_out (state.Lower h) = (_, on (lower h 0) (on (upper h 0) (on (count_close h) (half_walk h))))
way_out (state.Upper h) = (_, on (upper h 0) (on (count_close h) (half_walk h)))
way_out (state.Members h) = (_, on (count_close h) (half_walk h))
way_out state.Over = (_, here state.Over)

-- a file of the form begins so exactly if there is a walk
pub walk_begins : {ps : List Part} {s : State} → Walk state.Start ps s → Begins ps
walk_begins {ps} {s} w =
    let o = way_out s in
    let f = walk_form (join w o.1) in
    (f.0, f.1, f.2, o.0, sym f.3)

pub begins_walk : (ps : List Part) → Begins ps → (s : State) × Walk state.Start ps s
begins_walk ps b =
    let w : Walk state.Start (ps ++ b.3) state.Over = subst (λ (z : List Part). Walk state.Start z state.Over) b.4 (form_walk b.0 b.1 b.2) in
    let r = split ps w in
    (r.0, r.1)

-- the words settle the parts and the state
pub walk_once : {s t u : State} {ps qs : List Part} → Walk s ps t → Walk s qs u → all_written ps ≡ all_written qs → (ps ≡ qs) × (t ≡ u)
walk_once (here s) (here s₂) e = (refl, refl)
walk_once (here s) (on y v) e = clash (cc)
walk_once (on x w) (here s) e = clash (cc)
walk_once (on {s = s} {t = t} {u = t'} {p = p} {ps = ps} x w) (on {s = s₂} {t = u} {u = u'} {p = q} {ps = qs} y v) e =
    let pq : written_as p ≡ written_as q = cc in
    let er : all_written ps ≡ all_written qs = cc in
    let j = step_once x y pq in
    let i = walk_once w (subst (λ (z : State). Walk z qs u') (sym j.1) v) er in
    let j0 = j.0 in
    let i0 = i.0 in
    (cc, i.1)
