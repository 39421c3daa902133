-- Marking yes choice by choice: the steps of the loop, and that nothing is open in the end.
use Rattle.std.proofs.Common.{◌≡◌, ℕ, zero, suc, ◌+◌, ◌<◌, ◌≤◌, ◌⊎◌, List, [], ◌∷◌, length, get_or, drop, set, replicate, sym, refl, ap, ◌∙◌, subst, inl, inr, arith, length-set, get_or-set_other, get_or-set_same}
use lib.ListN.{length-replicate, get_or-replicate}
use lib.Seq.{set_out}
use Rattle.std.proofs.lemmas.List.{at_drop_more, at_drop_all}
use Rattle.std.proofs.lemmas.Bool.{cases_eq}
use Rattle.book.specs.declared.Mark.{Mark}
use Rattle.book.specs.declared.Mark.TheVariants.{Open, Yes, No}
use Rattle.book.specs.declared.Reading.{Reading}
use Rattle.book.specs.declared.Reading.TheVariants.{Broken, Quiet}
use Rattle.book.specs.Books.{Settled, Laws}
use Rattle.models.specs.Arrangements.{mark_yes, mark_all, arranged}

pub mark_out : (c : ℕ) (ms : List Mark) → (0 < c → length ms < c) → ms ≡ mark_yes c ms
mark_out zero ms h = refl
mark_out (suc k) ms h = let l = h (omega arith) in sym (set_out ms k Yes (omega (arith, l)))

pub all_more : (cs : List ℕ) (ms ms' : List Mark) (i : ℕ) → i < length cs → ms' ≡ mark_yes (get_or cs i 0) ms → mark_all (drop i cs) ms ≡ mark_all (drop (i + 1) cs) ms'
all_more cs ms ms' i h e = at_drop_more (λ (xs : List ℕ). mark_all xs ms) cs i 0 h ∙ ap (mark_all (drop (i + 1) cs)) (sym e)

pub all_done : (cs : List ℕ) (ms : List Mark) (i : ℕ) → length cs ≤ i → mark_all (drop i cs) ms ≡ ms
all_done cs ms i h = at_drop_all (λ (xs : List ℕ). mark_all xs ms) cs i h

yes_open : Yes ≡ Open → ⊥
yes_open e = let z : ◌≡◌ {A = ℕ} 0 1 = cc in omega arith

no_open : No ≡ Open → ⊥
no_open e = let z : ◌≡◌ {A = ℕ} 0 1 = cc in omega arith

quiet_broken : Quiet ≡ Broken → ⊥
quiet_broken e = let z : ◌≡◌ {A = ℕ} 0 1 = cc in omega arith

settled_yes : (c : ℕ) (ms : List Mark) → Settled ms → Settled (mark_yes c ms)
settled_yes zero ms s = s
settled_yes (suc k) ms s = λ j h o. at j (omega (arith, h, length-set ms k Yes)) o (cases_eq j k)
  where
    at : (j : ℕ) → j < length ms → get_or (set ms k Yes) j Open ≡ Open → (j ≡ k) ⊎ (j ≡ k → ⊥) → ⊥
    at j h o (inl e) = yes_open (sym (get_or-set_same ms k Yes Open (omega (arith, h, e))) ∙ ap (λ i. get_or (set ms k Yes) i Open) (sym e) ∙ o)
    at j h o (inr e) = s j h (sym (get_or-set_other ms k j Yes Open e) ∙ o)

settled_all : (cs : List ℕ) (ms : List Mark) → Settled ms → Settled (mark_all cs ms)
settled_all [] ms s = s
settled_all (c ∷ cs) ms s = settled_all cs (mark_yes c ms) (settled_yes c ms s)

pub settled_arranged : (n : ℕ) (cs : List ℕ) → Settled (arranged n cs)
settled_arranged n cs = settled_all cs (replicate n No) (λ k h o. no_open (sym (get_or-replicate n k No Open (omega (arith, h, length-replicate n No))) ∙ o))

-- What the reading of an arrangement tells.
module _ (n m : ℕ) (allows : List Mark → Type 0) (reads : List Mark → Reading) (laws : Laws n allows reads) (cs : List ℕ) (ms : List Mark) (made : ms ≡ arranged m cs) (kept : length ms ≡ m) (fit : length ms ≡ n) where
  same : ms ≡ arranged n cs
  same = made ∙ ap (λ (k : ℕ). arranged k cs) (sym kept ∙ fit)

  told : ((reads ms ≡ Quiet) × allows ms) ⊎ ((reads ms ≡ Broken) × (allows ms → ⊥))
  told = laws.settled ms fit (rw made (settled_arranged m cs))

  pub allowed : reads ms ≡ Quiet → allows (arranged n cs)
  allowed e =
      let a : allows ms = elim told [ inl y ↦ y.1 | inr y ↦ absurd (quiet_broken (sym e ∙ y.0)) ] in
      subst allows same a

  pub not_allowed : (reads ms ≡ Quiet → ⊥) → allows (arranged n cs) → ⊥
  not_allowed e a = elim told [ inl y ↦ e y.0 | inr y ↦ y.1 (subst allows (sym same) a) ]
