-- What a search leaves, from what its loop comes to.
use Rattle.std.proofs.Common.{◌≡◌, ℕ, ◌+◌, ◌^◌, ◌≤◌, List, length, replicate, Some, None, Option, sym, refl, ap, ◌∙◌, subst, inl, inr, arith}
use lib.ListN.{length-replicate}
use Rattle.std.proofs.lemmas.Bool.{cases_lt}
use Rattle.book.specs.declared.Mark.{Mark}
use Rattle.book.specs.declared.Mark.TheVariants.{Open}
use Rattle.book.specs.declared.Reading.{Reading}
use Rattle.book.specs.Books.{Laws, Extends}
use Rattle.solver.specs.declared.Ending.{Ending}
use Rattle.solver.specs.declared.Ending.TheVariants.{Found, None as NoneAllowed, Spent}
use Rattle.solver.specs.declared.Verdict.{Verdict}
use Rattle.solver.specs.Outcome.{Says, Ran, MarksAfter, Finished, Means}
use Rattle.solver.specs.Tree.{opens, Explores, FirstOf, TreeLaws}
use Rattle.solver.specs.Marks.{never_open, get_or_new, opens_new}
use Rattle.solver.proofs.Counts.{few, single}
use Rattle.solver.proofs.Meaning.{first_of, explored}

-- an ending says what the search comes to
none_of : (t a : ℕ) (o : Option (List Mark)) (v : Verdict) → Says t o a v → v.ending ≡ NoneAllowed → o ≡ None
none_of t a None v s e = refl
none_of t a (Some x) v s e =
    elim (cases_lt a t) [
      | inl q ↦ absurd (let p : v.ending ≡ Spent = ap (λ (u : Verdict). u.ending) (s.short q) in cc)
      | inr q ↦ absurd (let p : v.ending ≡ Found = ap (λ (u : Verdict). u.ending) (s.enough q) in cc)
    ]

spent_of : (t a : ℕ) (o : Option (List Mark)) (v : Verdict) → Says t o a v → v.ending ≡ Spent → t ≤ a → ⊥
spent_of t a None v s e q = let p : v.ending ≡ NoneAllowed = ap (λ (u : Verdict). u.ending) (s.enough q) in cc
spent_of t a (Some x) v s e q = let p : v.ending ≡ Found = ap (λ (u : Verdict). u.ending) (s.enough q) in cc

module _ (n : ℕ) (allows : List Mark → Type 0) (reads : List Mark → Reading) (laws : Laws n allows reads) where
  -- whatever is allowed extends open marks
  extends_new : (b : List Mark) → allows b → Extends (replicate n Open) b
  extends_new b al = ((laws.sized b al).0 ∙ sym (length-replicate n Open), λ k v e. absurd (never_open v (sym e ∙ get_or_new n k)))

  pub tree_laws : TreeLaws n allows reads
  tree_laws =
      record {
        total = λ ms l. (_, _, explored n allows reads laws (opens ms) ms refl l);
        single = λ ms t u o p x y. single reads x y;
        few = λ ms t o x. few reads x;
        first = λ ms t o l x. first_of n allows reads laws x l;
      }

  means_at : (e : Ending) (t : ℕ) (o : Option (List Mark)) (ms : List Mark) → Explores reads (replicate n Open) t o → (e ≡ Found → o ≡ Some ms) → (e ≡ NoneAllowed → o ≡ None) → Means allows e ms
  means_at Found t o ms x f g =
      let h : FirstOf allows (replicate n Open) (Some ms) = subst (λ (p : Option (List Mark)). FirstOf allows (replicate n Open) p) (f refl) (first_of n allows reads laws x (length-replicate n Open)) in
      (h.0, λ b al. h.2 b al (extends_new b al))
  means_at NoneAllowed t o ms x f g =
      let h : FirstOf allows (replicate n Open) None = subst (λ (p : Option (List Mark)). FirstOf allows (replicate n Open) p) (g refl) (first_of n allows reads laws x (length-replicate n Open)) in
      λ b al. h b al (extends_new b al)
  means_at Spent t o ms x f g = tt

  module _ (a : ℕ) (v : Verdict) (ms : List Mark) (r : Ran n reads a v ms) (ms' : List Mark) (kept : v.ending ≡ Found → ms' ≡ ms) where
    same_marks : v.ending ≡ Found → r.end ≡ Some ms'
    same_marks e = r.arrangement e ∙ ap Some (sym (kept e))

    pub means : Means allows v.ending ms'
    means = means_at v.ending r.needed r.end ms' r.explores same_marks (none_of r.needed a r.end v r.says)

    marks_at : (e : Ending) → (e ≡ Found → r.end ≡ Some ms') → ((e ≡ Found → ⊥) → ms' ≡ replicate n Open) → MarksAfter n e r.end ms'
    marks_at Found f g = f refl
    marks_at NoneAllowed f g = g (λ e. cc)
    marks_at Spent f g = g (λ e. cc)

    pub finished : (ms₀ : List Mark) (w₀ w' : List ℕ) → length ms₀ ≡ n → length w₀ ≡ n → ((v.ending ≡ Found → ⊥) → ms' ≡ replicate n Open) → w' ≡ replicate n 0 → Finished n reads a ms₀ w₀ ms' w' v
    finished ms₀ w₀ w' lm lw cleared z =
        let f : r.needed + 1 ≤ 2 ^ n = rw opens_new at (few reads r.explores) in
        record {
          fits = (lm, lw);
          needed = r.needed;
          end = r.end;
          explores = r.explores;
          says = r.says;
          marks = marks_at v.ending same_marks cleared;
          zeros = z;
          few = f;
          ample = λ q e. spent_of r.needed a r.end v r.says e (omega arith);
        }
