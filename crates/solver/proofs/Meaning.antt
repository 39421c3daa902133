-- The tree of readings of a lawful book: every search of it has an end, which is true of the book.
use Rattle.std.specs.Prelude.{◌≡◌, ℕ, zero, suc, ◌+◌, ◌-◌, ◌<◌, Bool, true, false, cond, ◌⊎◌, List, length, get_or, Some, None, Option, ◌≢◌, nat_lt, slice_index_or, slice_set}
use Rattle.std.proofs.Math.Path.{refl}
use Rattle.std.proofs.Common.{sym, ◌∙◌, ap, subst, inl, inr, zero-add, arith, ltb-true, ltb-false, length-set, get_or-set_same, get_or-set_other}
use Rattle.std.proofs.lemmas.Bool.{cases_eq}
use Rattle.book.specs.declared.Answer.{Answer}
use Rattle.book.specs.declared.Answer.TheVariants.{Yes as AnswerYes, No as AnswerNo}
use Rattle.book.specs.declared.Mark.{Mark}
use Rattle.book.specs.declared.Mark.TheVariants.{Open, Yes, No}
use Rattle.book.specs.declared.Reading.{Reading}
use Rattle.book.specs.declared.Reading.TheVariants.{Broken, Quiet, Forced}
use Rattle.book.specs.Books.{mark_of, open_mark, Laws, Extends, Settled}
use Rattle.solver.specs.Tree.{first_open, opens, Explores, broken, settled, forced, yes_side, no_side, FirstOf}
use Rattle.solver.specs.Marks.{first_is, before_first, never_open, not_open, opens_set, answer_of, only_itself}
use Rattle.solver.proofs.Runs.{Run, tick, after_of, by_reading, branch, ended, explore}

ext_on : (ms b : List Mark) (i : ℕ) (v : Answer) → i < length ms → Extends ms b → slice_index_or b i Open ≡ mark_of v → Extends (slice_set ms i (mark_of v)) b
ext_on ms b i v h x e = (x.0 ∙ sym (length-set ms i (mark_of v)), λ k w q. at k w q (cases_eq k i))
  where
    at : (k : ℕ) (w : Answer) → slice_index_or (slice_set ms i (mark_of v)) k Open ≡ mark_of w → (k ≡ i) ⊎ (k ≢ i) → slice_index_or b k Open ≡ mark_of w
    at k w q (inl s) = ap (λ j. get_or b j Open) s ∙ e ∙ sym (get_or-set_same ms i (mark_of v) Open h) ∙ ap (λ j. get_or (slice_set ms i (mark_of v)) j Open) (sym s) ∙ q
    at k w q (inr s) = x.1 k w (sym (get_or-set_other ms i k (mark_of v) Open s) ∙ q)

ext_off : (ms b : List Mark) (i : ℕ) (m : Mark) → slice_index_or ms i Open ≡ Open → Extends (slice_set ms i m) b → Extends ms b
ext_off ms b i m o x = (x.0 ∙ length-set ms i m, λ k w q. at k w q (cases_eq k i))
  where
    at : (k : ℕ) (w : Answer) → slice_index_or ms k Open ≡ mark_of w → (k ≡ i) ⊎ (k ≢ i) → slice_index_or b k Open ≡ mark_of w
    at k w q (inl s) = absurd (never_open w (sym q ∙ ap (λ j. get_or ms j Open) s ∙ o))
    at k w q (inr s) = x.1 k w (get_or-set_other ms i k m Open s ∙ q)

module _ (n : ℕ) (allows : List Mark → Type 0) (reads : List Mark → Reading) (laws : Laws n allows reads) where
  -- an allowed arrangement has an answer at each choice
  answered : (b : List Mark) (i : ℕ) → allows b → i < n → (slice_index_or b i Open ≡ Yes) ⊎ (slice_index_or b i Open ≡ No)
  answered b i al h = at (slice_index_or b i Open) refl
    where
      at : (m : Mark) → slice_index_or b i Open ≡ m → (slice_index_or b i Open ≡ Yes) ⊎ (slice_index_or b i Open ≡ No)
      at Open e = absurd ((laws.sized b al).1 i (omega (arith, (laws.sized b al).0)) e)
      at Yes e = inl e
      at No e = inr e

  -- marks may be extended by an answer that each allowed arrangement has
  narrow : (o : Option (List Mark)) (ms : List Mark) (i : ℕ) (v : Answer) → i < length ms → slice_index_or ms i Open ≡ Open → ((b : List Mark) → allows b → Extends ms b → slice_index_or b i Open ≡ mark_of v) → FirstOf allows (slice_set ms i (mark_of v)) o → FirstOf allows ms o
  narrow None ms i v h op f x = λ b al y. x b al (ext_on ms b i v h y (f b al y))
  narrow (Some a) ms i v h op f x = (x.0, ext_off ms a i (mark_of v) op x.1, λ b al y. x.2 b al (ext_on ms b i v h y (f b al y)))

  pub first_of : {ms : List Mark} {t : ℕ} {o : Option (List Mark)} → Explores reads ms t o → length ms ≡ n → FirstOf allows ms o
  first_of (broken ms e) l = λ b al x. laws.broken ms l e b al x
  first_of (settled ms e h) l =
      let st : Settled ms = λ k q o. before_first ms k (omega arith) o in
      let al : allows ms = elim (laws.settled ms l st) [ inl y ↦ y.1 | inr y ↦ absurd (let r : Quiet ≡ Broken = sym e ∙ y.0 in cc) ] in
      (al, (refl, λ k v q. q), λ b bl y. inl (only_itself ms b st y))
  first_of (forced ms c v t o e x) l =
      let f = laws.forced_open ms c v l e in
      let lt : c - 1 < length ms = omega (arith, f.0, f.1) in
      narrow o ms (c - 1) v lt f.2 (λ b al y. laws.forced ms c v l e b al y) (first_of x (length-set ms (c - 1) (mark_of v) ∙ l))
  first_of (yes_side ms t a e h x) l =
      let i : ℕ = first_open ms in
      let op : get_or ms i Open ≡ Open = first_is ms h in
      let w : FirstOf allows (slice_set ms i Yes) (Some a) = first_of x (length-set ms i Yes ∙ l) in
      let ex : Extends ms a = ext_off ms a i Yes op w.1 in
      let ay : get_or a i Open ≡ Yes = w.1.1 i AnswerYes (get_or-set_same ms i Yes Open h) in
      let agree : (b : List Mark) → Extends ms b → (j : ℕ) → j < i → slice_index_or a j Open ≡ get_or b j Open = λ b y j q. let v = answer_of (slice_index_or ms j Open) (before_first ms j q) in ex.1 j v.0 v.1 ∙ sym (y.1 j v.0 v.1) in
      (w.0, ex, λ b al y. elim (answered b i al (omega arith)) [ inl yes' ↦ w.2 b al (ext_on ms b i AnswerYes h y yes') | inr no' ↦ inr (i, agree b y, ay, no') ])
  first_of (no_side ms t u o e h x y) l =
      let i : ℕ = first_open ms in
      let op : get_or ms i Open ≡ Open = first_is ms h in
      let none : (b : List Mark) → allows b → Extends (slice_set ms i Yes) b → ⊥ = first_of x (length-set ms i Yes ∙ l) in
      narrow o ms i AnswerNo h op (λ b al z. elim (answered b i al (omega arith)) [ inl yes' ↦ absurd (none b al (ext_on ms b i AnswerYes h z yes')) | inr no' ↦ no' ]) (first_of y (length-set ms i No ∙ l))

  abbrev Comes : List Mark → Run → Type 0
  Comes ms r = Explores reads ms r.trials r.found

  joined : (ms : List Mark) → reads ms ≡ Quiet → first_open ms < length ms → (p q : Run) (o : Option (List Mark)) → p.found ≡ o → Comes (slice_set ms (first_open ms) Yes) p → Comes (slice_set ms (first_open ms) No) q → Comes ms (tick 1 (after_of o p q))
  joined ms e h p q (Some a) f x y =
      let x' : Explores reads (slice_set ms (first_open ms) Yes) p.trials (Some a) = subst (λ (o : Option (List Mark)). Explores reads (slice_set ms (first_open ms) Yes) p.trials o) f x in
      subst (λ (o : Option (List Mark)). Explores reads ms (1 + p.trials) o) (sym f) (yes_side ms p.trials a e h x')
  joined ms e h p q None f x y =
      let x' : Explores reads (slice_set ms (first_open ms) Yes) p.trials None = subst (λ (o : Option (List Mark)). Explores reads (slice_set ms (first_open ms) Yes) p.trials o) f x in
      no_side ms p.trials q.trials q.found e h x' y

  by : (rec : List Mark → Run) (ms : List Mark) → length ms ≡ n → ((i : ℕ) (m : Mark) → i < length ms → slice_index_or ms i Open ≡ Open → open_mark m ≡ false → Comes (slice_set ms i m) (rec (slice_set ms i m))) → (r : Reading) → reads ms ≡ r → Comes ms (by_reading rec ms r)
  by rec ms l ih Broken e = broken ms e
  by rec ms l ih (Forced c v) e =
      let f = laws.forced_open ms c v l e in
      let lt : c - 1 < length ms = omega (arith, f.0, f.1) in
      let r : Run = rec (slice_set ms (c - 1) (mark_of v)) in
      subst (λ (t : ℕ). Explores reads ms t r.found) (sym (zero-add r.trials)) (forced ms c v r.trials r.found e (ih (c - 1) (mark_of v) lt f.2 (not_open v)))
  by rec ms l ih Quiet e = at (nat_lt (first_open ms) (length ms)) refl
    where
      at : (b : Bool) → nat_lt (first_open ms) (length ms) ≡ b → Comes ms (cond b (branch rec ms) (ended (Some ms)))
      at true t =
          let h : first_open ms < length ms = ltb-true (first_open ms) (length ms) t in
          joined ms e h (rec (slice_set ms (first_open ms) Yes)) (rec (slice_set ms (first_open ms) No)) _ refl (ih (first_open ms) Yes h (first_is ms h) refl) (ih (first_open ms) No h (first_is ms h) refl)
      at false t = settled ms e (ltb-false (first_open ms) (length ms) t)

  -- the run that is computed is one of the relation
  pub explored : (f : ℕ) (ms : List Mark) → opens ms ≡ f → length ms ≡ n → Comes ms (explore reads f ms)
  unfolding explore
  explored zero ms q l = by (λ _. ended None) ms l (λ i m h o e. absurd (omega (arith, opens_set ms i m h (ap open_mark o) e))) (reads ms) refl
  explored (suc f) ms q l = by (explore reads f) ms l (λ i m h o e. explored f (slice_set ms i m) (omega (arith, opens_set ms i m h (ap open_mark o) e)) (length-set ms i m ∙ l)) (reads ms) refl
