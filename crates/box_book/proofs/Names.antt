-- The runs of one name each that a sound list is made of.
use Rattle.std.proofs.Common.{◌≡◌, ℕ, zero, suc, ◌+◌, ◌-◌, ◌<◌, ◌≤◌, Bool, true, false, not, eqb, ◌⊎◌, List, [], ◌∷◌, length, take, drop, Decides, MatchOption, IfSome, IsTrue, Some, None, Option, ◌≢◌, sym, refl, ap, ◌∙◌, subst, inl, inr, arith, length-drop}
use denote.Param.Members.{Mut, Called}
use Rattle.std.specs.Iterator.{Yields, ChecksAny, FindsMapped}
use Rattle.std.specs.Iterator.Runs.{Run, YieldsRun, SomeRun, AllItemsGive, IsFirstToGive, CallKeepsClosure}
use Rattle.std.specs.List.{FoldsTo, slice_get}
use Rattle.std.specs.Bool.{then_some}
use Rattle.std.specs.Str.TwoWay.{IsFirst, NoneBefore}
use Rattle.std.proofs.lemmas.Bool.{cases_lt, cases_eq, cases_Bool, both_ways, eq-eqb, eqb-true, ne_eqb, not-true, and_from, and_parts}
use Rattle.std.proofs.lemmas.List.{get_or-take, get_or-drop, length-take-le, take_rest}
use Rattle.book.specs.declared.Mark.{Mark}
use Rattle.book.specs.declared.Mark.TheVariants.{Open, Yes, No}
use Rattle.book.specs.Books.{open_mark}
use Rattle.box_book.specs.declared.NameBox.{NameBox}
use Rattle.box_book.specs.declared.marked.Marked.{Marked}
use Rattle.box_book.specs.declared.marked.NameRun.{NameRun}
use Rattle.box_book.specs.declared.marked.NameRuns.{NameRuns}
use Rattle.box_book.specs.Causes.{no_box, box_at, Sound}
use Rattle.box_book.specs.Places.{some_below, first_below}
use Rattle.box_book.specs.Meaning.{mark_at}
use Rattle.box_book.specs.Readings.{is_no, keeps_at, lost_at, lost, rivals_at, alone_at}
use Rattle.box_book.specs.Runs.{RunEnd, IsRun, GivesRun, AllNo, OneOpen}
use Rattle.box_book.specs.Finds.{some_false, none_false, some_by, first_by}
use Rattle.box_book.specs.Laws.{no_is, open_is}

-- A run, by how many boxes from its start on have the name.
pub run_by :
    (bs : List NameBox) (s n name : ℕ) → s < length bs → name ≡ (box_at bs s).name → n ≤ length (take (length bs - s) (drop s bs)) →
    ((k : ℕ) → k < n → (box_at (take (length bs - s) (drop s bs)) k).name ≡ name) → (n < length (take (length bs - s) (drop s bs)) → (box_at (take (length bs - s) (drop s bs)) n).name ≢ name) → RunEnd bs s (s + n)
run_by bs s n name l e w same other = record {
  after = omega (arith, some);
  within = omega (arith, long);
  same = λ k g h. let q : s + (k - s) ≡ k = omega arith in sym (ap (λ (i : ℕ). (box_at bs i).name) q) ∙ sym (at (k - s)) ∙ same (k - s) (omega arith) ∙ e;
  other = λ h q. other (omega (arith, long)) (at n ∙ q ∙ sym e);
}
  where
    long : length (take (length bs - s) (drop s bs)) ≡ length bs - s
    long = ap length (take_rest bs s) ∙ length-drop s bs

    at : (k : ℕ) → (box_at (take (length bs - s) (drop s bs)) k).name ≡ (box_at bs (s + k)).name
    at k = ap (λ (z : List NameBox). (box_at z k).name) (take_rest bs s) ∙ ap (λ (b : NameBox). b.name) (get_or-drop s bs k no_box)

    some : 0 < n
    some = elim (cases_lt 0 n) [ inl h ↦ h | inr h ↦ absurd (none (omega arith)) ]
      where
        none : n ≡ 0 → ⊥
        none z = let q : s + n ≡ s = omega arith in other (omega (arith, long)) (at n ∙ ap (λ (i : ℕ). (box_at bs i).name) q ∙ sym e)

-- What is asked of the boxes of one name.
module _ (bs : List NameBox) (ms : List Mark) where
  -- all boxes of the name of the box at k are no
  abbrev pub Lost : ℕ → Type 0
  Lost k = (j : ℕ) → j < length bs → (box_at bs j).name ≡ (box_at bs k).name → mark_at ms j ≡ No

  -- the box at k is open, and all others of its name are no
  abbrev pub Alone : ℕ → Type 0
  Alone k = (mark_at ms k ≡ Open) × ((j : ℕ) → j < length bs → j ≢ k → (box_at bs j).name ≡ (box_at bs k).name → mark_at ms j ≡ No)

  -- a box that is not marked no keeps its name
  unkept : (m j : ℕ) → (box_at bs j).name ≡ m → keeps_at bs ms m j ≡ false → mark_at ms j ≡ No
  unkept m j e f = no_is (mark_at ms j) (by (is_no (mark_at ms j)) refl)
    where
      by : (b : _) → is_no (mark_at ms j) ≡ b → b ≡ true
      by true q = refl
      by false q = absurd (both_ways (keeps_at bs ms m j) f (and_from (eqb (box_at bs j).name m) (not (is_no (mark_at ms j))) (eq-eqb (box_at bs j).name m e) (ap not q)))

  kept : (m j : ℕ) → ((box_at bs j).name ≡ m → mark_at ms j ≡ No) → keeps_at bs ms m j ≡ true → ⊥
  kept m j f e =
      let p = and_parts (eqb (box_at bs j).name m) (not (is_no (mark_at ms j))) e in
      both_ways (not (is_no (mark_at ms j))) (ap (λ (x : Mark). not (is_no x)) (f (eqb-true (box_at bs j).name m p.0))) p.1

  pub lost_tested : (k : ℕ) → k < length bs → Lost k → lost_at bs ms k ≡ true
  lost_tested k l f = ap not (none_false (keeps_at bs ms (box_at bs k).name) (length bs) (λ j h e. kept (box_at bs k).name j (f j h) e))

  pub lost_told : (k : ℕ) → k < length bs → lost_at bs ms k ≡ true → Lost k
  lost_told k l e =
      let none = not-true (some_below (keeps_at bs ms (box_at bs k).name) (length bs)) e in
      λ j h q. unkept (box_at bs k).name j q (some_false (keeps_at bs ms (box_at bs k).name) (length bs) none j h)

  pub alone_tested : (k : ℕ) → k < length bs → Alone k → alone_at bs ms k ≡ true
  alone_tested k l a =
      and_from (open_mark (mark_at ms k)) (not (some_below (rivals_at bs ms k) (length bs))) (ap open_mark a.0) (ap not (none_false (rivals_at bs ms k) (length bs) (λ j h e. by j h (and_parts (not (eqb j k)) (keeps_at bs ms (box_at bs k).name j) e))))
    where
      by : (j : ℕ) → j < length bs → (not (eqb j k) ≡ true) × (keeps_at bs ms (box_at bs k).name j ≡ true) → ⊥
      by j h p = kept (box_at bs k).name j (a.1 j h (λ e. both_ways (eqb j k) (not-true (eqb j k) p.0) (eq-eqb j k e))) p.1

  pub alone_told : (k : ℕ) → k < length bs → alone_at bs ms k ≡ true → Alone k
  alone_told k l e =
      let p = and_parts (open_mark (mark_at ms k)) (not (some_below (rivals_at bs ms k) (length bs))) e in
      let none = not-true (some_below (rivals_at bs ms k) (length bs)) p.1 in
      (open_is (mark_at ms k) p.0, λ j h n q. by j n q (some_false (rivals_at bs ms k) (length bs) none j h) (cases_Bool (keeps_at bs ms (box_at bs k).name j)))
    where
      by : (j : ℕ) → j ≢ k → (box_at bs j).name ≡ (box_at bs k).name → rivals_at bs ms k j ≡ false → (keeps_at bs ms (box_at bs k).name j ≡ true) ⊎ (keeps_at bs ms (box_at bs k).name j ≡ false) → mark_at ms j ≡ No
      by j n q f (inl y) = absurd (both_ways (rivals_at bs ms k j) f (and_from (not (eqb j k)) (keeps_at bs ms (box_at bs k).name j) (ap not (ne_eqb j k n)) y))
      by j n q f (inr y) = unkept (box_at bs k).name j q y

-- a run ends before s: the names before are below those from s on
abbrev pub RunsDone : List NameBox → ℕ → Type 0
RunsDone bs s = (s ≤ length bs) × ((k j : ℕ) → k < s → s ≤ j → j < length bs → (box_at bs k).name < (box_at bs j).name)

pub runs_none : (bs : List NameBox) → RunsDone bs 0
runs_none bs = (omega arith, λ k j h g l. absurd (omega arith))

rises_far : (bs : List NameBox) → Sound bs → (i j : ℕ) → i ≤ j → j < length bs → (box_at bs i).name ≤ (box_at bs j).name
rises_far bs s i zero h l = let e : i ≡ 0 = omega arith in rw e (omega arith)
rises_far bs s i (suc j) h l =
    elim (cases_lt j i) [
      | inl g ↦ let e : i ≡ suc j = omega arith in rw e (omega arith)
      | inr g ↦ let u = rises_far bs s i j g (omega arith) in let v = s.rises j l in omega arith
    ]

module _ (bs : List NameBox) (sound : Sound bs) (s e : ℕ) (done : RunsDone bs s) (run : RunEnd bs s e) where
  past : (j : ℕ) → e ≤ j → j < length bs → (box_at bs s).name < (box_at bs j).name
  past j h l =
      let u = rises_far bs sound e j h l in
      let v = rises_far bs sound s e (omega (arith, run.after)) (omega arith) in
      let w = run.other (omega arith) in
      by u v w
    where
      by : (box_at bs e).name ≤ (box_at bs j).name → (box_at bs s).name ≤ (box_at bs e).name → ((box_at bs e).name ≡ (box_at bs s).name → ⊥) → (box_at bs s).name < (box_at bs j).name
      by u v w = elim (cases_lt (box_at bs s).name (box_at bs e).name) [ inl g ↦ omega arith | inr g ↦ absurd (w (omega arith)) ]

  pub runs_more : RunsDone bs e
  runs_more = (run.within, λ k j h g l. by k j h g l (cases_lt k s))
    where
      by : (k j : ℕ) → k < e → e ≤ j → j < length bs → (k < s) ⊎ (s ≤ k) → (box_at bs k).name < (box_at bs j).name
      by k j h g l (inl q) = done.1 k j q (omega (arith, run.after)) l
      by k j h g l (inr q) = let u = run.same k q h in let v = past j g l in omega arith

  -- the boxes of the name are those of the run
  run_only : (j : ℕ) → j < length bs → (box_at bs j).name ≡ (box_at bs s).name → (s ≤ j) × (j < e)
  run_only j l q =
      elim (cases_lt j s) [
        | inl h ↦ absurd (omega (arith, done.1 j s h (omega arith) (omega (arith, run.after, run.within))))
        | inr h ↦ elim (cases_lt j e) [ inl g ↦ (h, g) | inr g ↦ absurd (omega (arith, past j g l)) ]
      ]

  -- The marks of the run, as a list of their own.
  module _ (ms : List Mark) (sized : length ms ≡ length bs) where
    abbrev part : List Mark
    part = take (e - s) (drop s ms)

    part_long : length part ≡ e - s
    part_long = length-take-le (e - s) (drop s ms) (omega (arith, length-drop s ms, run.within))

    part_at : (i : ℕ) → i < e - s → mark_at part i ≡ mark_at ms (s + i)
    part_at i l = get_or-take (e - s) (drop s ms) i Open l ∙ get_or-drop s ms i Open

    mark_of : (j : ℕ) → s ≤ j → j < e → mark_at ms j ≡ mark_at part (j - s)
    mark_of j l h = let q : s + (j - s) ≡ j = omega arith in sym (part_at (j - s) (omega arith) ∙ ap (mark_at ms) q)

    pub all_lost : AllNo part → Lost bs ms s
    all_lost f = λ j h q. let w = run_only j h q in mark_of j w.0 w.1 ∙ f (j - s) (omega (arith, part_long, w.0, w.1))

    pub lost_all : (k : ℕ) → s ≤ k → k < e → Lost bs ms k → AllNo part
    lost_all k l h f = λ i g. let z : i < e - s = omega (arith, part_long) in part_at i z ∙ f (s + i) (omega (arith, run.within)) (run.same (s + i) (omega arith) (omega arith) ∙ sym (run.same k l h))

    pub open_alone : (i : ℕ) → OneOpen part i → Alone bs ms (s + i)
    open_alone i o =
        let z : i < e - s = omega (arith, part_long, o.0) in
        (sym (part_at i z) ∙ o.1, λ j h n q. let w = run_only j h (q ∙ run.same (s + i) (omega arith) (omega arith)) in mark_of j w.0 w.1 ∙ o.2 (j - s) (omega (arith, part_long, w.0, w.1)) (λ y. n (omega (arith, w.0))))

    pub alone_open : (k : ℕ) → s ≤ k → k < e → Alone bs ms k → OneOpen part (k - s)
    alone_open k l h a =
        (omega (arith, part_long), sym (mark_of k l h) ∙ a.0, λ i g n. let z : i < e - s = omega (arith, part_long) in part_at i z ∙ a.1 (s + i) (omega (arith, run.within)) (λ y. n (omega arith)) (run.same (s + i) (omega arith) (omega arith) ∙ sym (run.same k l h)))

-- The runs of a list, one after another.
module _ (l : Marked) where
  -- a run ends before place n, and no place before has the property
  abbrev Clear : (ℕ → Type 0) → ℕ → Type 0
  Clear P n = RunsDone l.boxes.now n × ((k : ℕ) → k < n → P k → ⊥)

  clear_none : (P : ℕ → Type 0) (n : ℕ) → n ≡ 0 → Clear P n
  clear_none P n e = rw e (runs_none l.boxes.now, λ k h p. omega arith)

  gives : (s t : NameRuns) (o : Option NameRun) → s.list ≡ l → GivesRun s o t → (t.list ≡ l) × MatchOption o (length l.boxes.now ≤ s.start) (IsRun l.boxes.now l.marks.now s.start t.start)
  gives s t None e g = (g.0 ∙ e, subst (λ (m : Marked). length m.boxes.now ≤ s.start) e g.1.0)
  gives s t (Some run) e g = (g.0 ∙ e, subst (λ (m : Marked). IsRun m.boxes.now m.marks.now s.start t.start run) e g.1)

  module _ {F R : Type 0} (g : Mut F (NameRun × Unit {0}) R) (miss : R) (P : ℕ → Type 0) (turn : (a b : ℕ) (run : NameRun) (f f' : F) → RunsDone l.boxes.now a → IsRun l.boxes.now l.marks.now a b run → Called g f (run, tt) miss f' → (k : ℕ) → a ≤ k → k < b → P k → ⊥) where
    cleared : (xs : List NameRun) (s t : NameRuns) (f f' : F) → s.list ≡ l → Yields GivesRun s xs t → FoldsTo (λ p x q. Called g p (x, tt) miss q) f xs f' → Clear P s.start → (t.list ≡ l) × Clear P t.start
    cleared [] s t f f' e y w c = subst (λ (z : NameRuns). (z.list ≡ l) × Clear P z.start) y (e, c)
    cleared (x ∷ xs) s t f f' e y w c =
        let o = gives s y.0 (Some x) e y.1 in
        cleared xs y.0 t w.0 f' o.0 y.2 w.2 (runs_more l.boxes.now l.sound s.start y.0.start c.0 o.1.ends, λ k h p. elim (cases_lt k s.start) [ inl q ↦ c.1 k q p | inr q ↦ turn s.start y.0.start x f w.0 c.0 o.1 w.1 k q h p ])

  module _ {F : Type 0} (g : Mut F (NameRun × Unit {0}) Bool) (hit : (x : NameRun) (p q : F) → Called g p (x, tt) true q → AllNo x.marks.now) (miss : (x : NameRun) (p q : F) → Called g p (x, tt) false q → AllNo x.marks.now → ⊥) where
    lost_turn : (a b : ℕ) (run : NameRun) (f f' : F) → RunsDone l.boxes.now a → IsRun l.boxes.now l.marks.now a b run → Called g f (run, tt) false f' → (k : ℕ) → a ≤ k → k < b → Lost l.boxes.now l.marks.now k → ⊥
    lost_turn a b run f f' d i e k lk hk h = miss run f f' e (subst AllNo (sym i.marks) (lost_all l.boxes.now l.sound a b d i.ends l.marks.now l.fit k lk hk h))

    pub lost_by : (s u : NameRuns) (f : F) (r : Bool) → s.list ≡ l → s.start ≡ 0 → ChecksAny GivesRun g s f r u → r ≡ lost l.boxes.now l.marks.now
    lost_by s u f r e z a =
        some_by (Lost l.boxes.now l.marks.now) (lost_at l.boxes.now l.marks.now) (length l.boxes.now) (lost_tested l.boxes.now l.marks.now) (lost_told l.boxes.now l.marks.now) r (by a.1 a.3.2 a.5)
      where
        t : NameRuns
        t = a.3.0

        at : (t.list ≡ l) × Clear (Lost l.boxes.now l.marks.now) t.start
        at = cleared g false (Lost l.boxes.now l.marks.now) lost_turn a.0 s t f a.2 e a.3.1 a.4 (clear_none (Lost l.boxes.now l.marks.now) s.start z)

        by : (o : Option NameRun) → GivesRun t o u → MatchOption o (r ≡ false) (λ x. (r ≡ true) × ((h : F) × Called g a.2 (x, tt) true h)) → Decides r ((k : ℕ) × (k < length l.boxes.now) × Lost l.boxes.now l.marks.now k)
        by None n m = let w = gives t u None at.0 n in ((λ q. absurd (both_ways r m q)), (λ x. absurd (at.1.1 x.0 (omega (arith, w.1, x.1)) x.2)))
        by (Some x) n m =
            let i = (gives t u (Some x) at.0 n).1 in
            ((λ q. (t.start, omega (arith, i.ends.after, i.ends.within), all_lost l.boxes.now l.sound t.start u.start at.1.0 i.ends l.marks.now l.fit (subst AllNo i.marks (hit x a.2 m.1.0 m.1.1)))), (λ q. m.0))

  -- what a run has to say of its only open box
  abbrev Says : NameRun → Option ℕ → Type 0
  Says run r = MatchOption r ((k : ℕ) → OneOpen run.marks.now k → ⊥) (λ place. (k : ℕ) × (place ≡ run.start + k) × OneOpen run.marks.now k)

  module _ {F : Type 0} (g : Mut F (NameRun × Unit {0}) (Option ℕ)) (says : (x : NameRun) (p q : F) (r : Option ℕ) → Called g p (x, tt) r q → Says x r) where
    alone_turn : (a b : ℕ) (run : NameRun) (f f' : F) → RunsDone l.boxes.now a → IsRun l.boxes.now l.marks.now a b run → Called g f (run, tt) None f' → (k : ℕ) → a ≤ k → k < b → Alone l.boxes.now l.marks.now k → ⊥
    alone_turn a b run f f' d i e k lk hk h =
        says run f f' None e (k - a) (subst (λ (ms : List Mark). OneOpen ms (k - a)) (sym i.marks) (alone_open l.boxes.now l.sound a b d i.ends l.marks.now l.fit k lk hk h))

    -- none was found in all of the runs
    alone_none : (s u : NameRuns) (xs : List NameRun) (t : NameRuns) (f f' : F) → s.list ≡ l → s.start ≡ 0 → Yields GivesRun s xs t → FoldsTo (λ p x q. Called g p (x, tt) None q) f xs f' → GivesRun t None u → IsFirst (Alone l.boxes.now l.marks.now) 0 (length l.boxes.now) None
    alone_none s u xs t f f' e z y w n =
        let at = cleared g None (Alone l.boxes.now l.marks.now) alone_turn xs s t f f' e y w (clear_none (Alone l.boxes.now l.marks.now) s.start z) in
        let end = gives t u None at.0 n in
        λ k h q. at.1.1 k (omega (arith, end.1))

    -- one was found, after runs with none
    alone_some : (s u : NameRuns) (xs : List NameRun) (x : NameRun) (t : NameRuns) (f f' f'' : F) (place : ℕ) → s.list ≡ l → s.start ≡ 0 → Yields GivesRun s xs t → FoldsTo (λ p x q. Called g p (x, tt) None q) f xs f' → GivesRun t (Some x) u → Called g f' (x, tt) (Some place) f'' → IsFirst (Alone l.boxes.now l.marks.now) 0 (length l.boxes.now) (Some place)
    alone_some s u xs x t f f' f'' place e z y w n m =
        let at = cleared g None (Alone l.boxes.now l.marks.now) alone_turn xs s t f f' e y w (clear_none (Alone l.boxes.now l.marks.now) s.start z) in
        let i = (gives t u (Some x) at.0 n).1 in
        let o = says x f' f'' (Some place) m in
        let here : OneOpen (part l.boxes.now l.sound t.start u.start at.1.0 i.ends l.marks.now l.fit) o.0 = subst (λ (ms : List Mark). OneOpen ms o.0) i.marks o.2 in
        let a = open_alone l.boxes.now l.sound t.start u.start at.1.0 i.ends l.marks.now l.fit o.0 here in
        let q : t.start + o.0 ≡ place = omega (arith, o.1, i.start) in
        let lt : place < u.start = omega (arith, here.0, part_long l.boxes.now l.sound t.start u.start at.1.0 i.ends l.marks.now l.fit) in
        let alone : Alone l.boxes.now l.marks.now place = subst (Alone l.boxes.now l.marks.now) q a in
        (record { low = omega arith; high = omega (arith, i.ends.within); before = λ j g h. by alone (omega arith) lt i.ends at.1.1 j h (cases_lt j t.start) }, alone)
      where
        by : Alone l.boxes.now l.marks.now place → t.start ≤ place → place < u.start → RunEnd l.boxes.now t.start u.start → ((k : ℕ) → k < t.start → Alone l.boxes.now l.marks.now k → ⊥) → (j : ℕ) → j < place → (j < t.start) ⊎ (t.start ≤ j) → Alone l.boxes.now l.marks.now j → ⊥
        by a low lt run none j h (inl g) q = none j g q
        by a low lt run none j h (inr g) q =
            let no : mark_at l.marks.now j ≡ No = a.1 j (omega (arith, run.within)) (λ e. omega arith) (run.same j g (omega arith) ∙ sym (run.same place low lt)) in
            let open' = q.0 in
            let z : ◌≡◌ {A = ℕ} 0 1 = cc in
            omega arith

    folds : (xs : List NameRun) (f : F) → ((k : ℕ) → IfSome (slice_get xs k) (λ x. Called g f (x, tt) None f)) → FoldsTo (λ p x q. Called g p (x, tt) None q) f xs f
    folds [] f h = refl
    folds (x ∷ xs) f h = (f, h 0, folds xs f (λ k. h (suc k)))

    alone_drained : (s : NameRuns) (f : F) (p : Run GivesRun) → s.list ≡ l → s.start ≡ 0 → p.from ≡ s → p.whole ≡ true → ((k : ℕ) → IfSome (p.at k) (λ x. Called g f (x, tt) None f)) → IsFirst (Alone l.boxes.now l.marks.now) 0 (length l.boxes.now) None
    unfolding YieldsRun
    alone_drained s f p e z from whole h =
        let d = p.gave.0 in
        let u = d.2 whole in
        alone_none p.from u.0 p.items d.0 f f (ap (λ (x : NameRuns). x.list) from ∙ e) (ap (λ (x : NameRuns). x.start) from ∙ z) d.1 (folds p.items f (λ k. subst (λ o. IfSome o (λ x. Called g f (x, tt) None f)) (p.gave.1 k) (h k))) u.1

    pub alone_first : (s u : NameRuns) (f : F) (r : Option ℕ) → s.list ≡ l → s.start ≡ 0 → FindsMapped GivesRun g s f r u → SomeRun GivesRun s (λ p. MatchOption r (IsTrue p.whole × AllItemsGive p g f None) (λ y. (i : ℕ) × (i < p.len) × (p.len ≡ i + 1) × IsFirstToGive p g f (Some y) None i)) → CallKeepsClosure g f → r ≡ first_below (alone_at l.boxes.now l.marks.now) (length l.boxes.now)
    alone_first s u f r e z ran runs keeps =
        first_by (Alone l.boxes.now l.marks.now) (alone_at l.boxes.now l.marks.now) (length l.boxes.now) (alone_tested l.boxes.now l.marks.now) (alone_told l.boxes.now l.marks.now) r (by r ran runs)
      where
        by : (r : Option ℕ) → FindsMapped GivesRun g s f r u → SomeRun GivesRun s (λ p. MatchOption r (IsTrue p.whole × AllItemsGive p g f None) (λ y. (i : ℕ) × (i < p.len) × (p.len ≡ i + 1) × IsFirstToGive p g f (Some y) None i)) → IsFirst (Alone l.boxes.now l.marks.now) 0 (length l.boxes.now) r
        by None ran runs = alone_drained s f runs.0 e z runs.1 runs.2.0 (runs.2.1 keeps)
        by (Some place) ran runs = one ran.1 ran.3.2 ran.5
          where
            one : (o : Option NameRun) → GivesRun ran.3.0 o u → MatchOption o (Some place ≡ None) (λ x. (h : F) × Called g ran.2 (x, tt) (Some place) h) → IsFirst (Alone l.boxes.now l.marks.now) 0 (length l.boxes.now) (Some place)
            one None n m = absurd (let w : ◌≡◌ {A = ℕ} 0 1 = cc in omega arith)
            one (Some x) n m = alone_some s u ran.0 x ran.3.0 f ran.2 m.0 place e z ran.3.1 ran.4 n m.1

-- The only open mark of a run, by the first that is not no.
module _ (ms : List Mark) (kept : ℕ) (first : NoneBefore (λ k. mark_at ms k ≢ No) 0 (length ms) kept) (here : mark_at ms kept ≢ No) where
  unnot : (m : Mark) → ((m ≢ No) → ⊥) → m ≡ No
  unnot Open f = absurd (f (λ e. let z : ◌≡◌ {A = ℕ} 0 1 = cc in omega arith))
  unnot Yes f = absurd (f (λ e. let z : ◌≡◌ {A = ℕ} 0 1 = cc in omega arith))
  unnot No f = refl

  only : (k : ℕ) → OneOpen ms k → k ≡ kept
  only k o = elim (cases_eq k kept) [ inl e ↦ e | inr n ↦ absurd (here (o.2 kept first.high (λ e. n (sym e)))) ]

  pub closed_alone : open_mark (mark_at ms kept) ≡ false → Decides false (OneOpen ms kept)
  closed_alone e = ((λ q. absurd (both_ways false refl q)), (λ o. absurd (both_ways (open_mark (mark_at ms kept)) e (ap open_mark o.1))))

  pub rest_alone : (b : Bool) → open_mark (mark_at ms kept) ≡ true → Decides b (AllNo (take (length ms - (kept + 1)) (drop (kept + 1) ms))) → Decides b (OneOpen ms kept)
  rest_alone b e d =
      let d' : Decides b (AllNo (drop (kept + 1) ms)) = subst (λ (z : List Mark). Decides b (AllNo z)) (take_rest ms (kept + 1)) d in
      ((λ q. (first.high, open_is (mark_at ms kept) e, λ j l n. others (d'.0 q) j l n (cases_lt j kept))), (λ o. d'.1 (λ i l. get_or-drop (kept + 1) ms i Open ∙ o.2 (kept + 1 + i) (omega (arith, length-drop (kept + 1) ms)) (λ y. omega arith))))
    where
      others : AllNo (drop (kept + 1) ms) → (j : ℕ) → j < length ms → j ≢ kept → (j < kept) ⊎ (kept ≤ j) → mark_at ms j ≡ No
      others f j l n (inl h) = unnot (mark_at ms j) (first.before j (omega arith) h)
      others f j l n (inr h) = let q : kept + 1 + (j - (kept + 1)) ≡ j = omega arith in sym (ap (mark_at ms) q) ∙ sym (get_or-drop (kept + 1) ms (j - (kept + 1)) Open) ∙ f (j - (kept + 1)) (omega (arith, length-drop (kept + 1) ms, q))

  pub alone_by : (start : ℕ) (b : Bool) (r : Option ℕ) → r ≡ then_some b (start + kept) → Decides b (OneOpen ms kept) → MatchOption r ((k : ℕ) → OneOpen ms k → ⊥) (λ place. (k : ℕ) × (place ≡ start + k) × OneOpen ms k)
  alone_by start true r e d = rw e (kept, refl, d.0 refl)
  alone_by start false r e d = rw e (λ k o. both_ways false refl (d.1 (subst (OneOpen ms) (only k o) o)))
