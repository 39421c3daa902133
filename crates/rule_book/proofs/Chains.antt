-- What the iterator chains come to, from the calls of their closures.
use Rattle.std.specs.Prelude.{◌≡◌, ℕ, zero, suc, ◌+◌, ◌<◌, Bool, true, false, cond, List, [], ◌∷◌, length, get_or, Some, None, Option, MatchOption, IfSome, IsSomeAnd, IsTrue, refl}
use Rattle.std.proofs.Common.{sym, ap, ◌∙◌, subst, arith, Iter}
use Rattle.std.specs.Option.{option_map}
use Rattle.std.proofs.lemmas.Fn.{fronts}
use Rattle.std.proofs.lemmas.Option.{same_Some, none-some}
use Rattle.std.specs.List.{find, FoldsTo}
use Rattle.std.specs.Fn.{Called}
use Rattle.std.specs.Iterator.{Yields}
use Rattle.std.specs.Iterator.Runs.{Run, ItemsMapTo, AllItemsGive, IsFirstToGive, CallKeepsClosure}
use denote.Ref.{Bor}
use denote.Param.Members.{Mut}
use Rattle.book.specs.declared.Mark.{Mark}
use Rattle.book.specs.declared.Answer.{Answer}
use Rattle.book.specs.declared.Reading.{Reading}
use Rattle.book.specs.declared.Reading.TheVariants.{Quiet, Forced}
use Rattle.book.specs.Books.{open_mark, first_loud}
use Rattle.rules.specs.declared.CountRow.{CountRow}
use Rattle.rules.specs.declared.RuleRow.{RuleRow}
use Rattle.rules.specs.Rules.{choice, mark_at}
use Rattle.rules.specs.Storage.{choices, rule_of, decode}
use Rattle.rule_book.specs.declared.Role.{Role}
use Rattle.rule_book.specs.declared.Pressure.{Pressure}
use Rattle.rule_book.specs.declared.Pressure.TheVariants.{Broken as NoneUnsure, Forced as OneUnsure}
use Rattle.rule_book.specs.Readings.{first_open, rule_reading, rules_reading}
use Rattle.rule_book.specs.Weighing.{pressure_reading, reading_of, weigh, weigh_item}
use Rattle.rule_book.specs.Fold.{weigh_quiet}

first_by : (b : Bool) (c : ℕ) (v : Answer) (o : Option ℕ) (r : Reading) → reading_of (option_map (λ k. OneUnsure k v) o) ≡ r → reading_of (option_map (λ k. OneUnsure k v) (cond b (Some c) o)) ≡ cond b (Forced c v) r
first_by true c v o r e = refl
first_by false c v o r e = e

first_find : (ms : List Mark) (cs : List ℕ) (v : Answer) → reading_of (option_map (λ c. OneUnsure c v) (find (λ c. open_mark (mark_at ms c)) cs)) ≡ first_open ms cs v
first_find ms [] v = refl
first_find ms (c ∷ cs) v = first_by (open_mark (mark_at ms c)) c v _ _ (first_find ms cs v)

-- the first open choice, as it is found
pub first_found : (ms : List Mark) (cs : List ℕ) (v : Answer) (r : Option (Bor ℕ)) → option_map (λ c. c.now) r ≡ find (λ c. open_mark (mark_at ms c)) cs → (p : Option Pressure) → MatchOption r (p ≡ None) (λ c. p ≡ Some (OneUnsure c.now v)) → reading_of p ≡ first_open ms cs v
first_found ms cs v None e p h = ap reading_of h ∙ ap (λ o. reading_of (option_map (λ c. OneUnsure c v) o)) e ∙ first_find ms cs v
first_found ms cs v (Some c) e p h = ap reading_of h ∙ ap (λ o. reading_of (option_map (λ c. OneUnsure c v) o)) e ∙ first_find ms cs v

none_left : (xs : List ℕ) → length xs ≡ 0 → xs ≡ []
none_left [] e = refl
none_left (x ∷ xs) e = absurd (omega arith)

-- choices weighed in turn, until nothing can follow any more
module _ {F : Type 0} (g : Mut F (Pressure × (Bor ℕ × Unit {0})) (Option Pressure)) (f : F) (o : Role) (ms : List Mark) (says : (b : Pressure) (x : Bor ℕ) (v : Option Pressure) (q : F) → Called g f (b, (x, tt)) v q → (q ≡ f) × (reading_of v ≡ weigh_item o ms (choice x.now) (pressure_reading b))) where
  abbrev Turn : F × Pressure → Bor ℕ → F × Pressure → Type 0
  Turn p x q = (v : Option Pressure) × Called g p.0 (p.1, (x, tt)) v q.0 × (v ≡ Some q.1)

  pub weighs : (E : Type 0) (s t u : Iter ℕ) (xs : List (Bor ℕ)) (y : Option (Bor ℕ)) (j : F) (b a : Pressure) (r : Option Pressure) → Yields fronts s xs t → fronts t y u → FoldsTo Turn (f, b) xs (j, a) →
      MatchOption y (r ≡ Some a) (λ x. (v : Option Pressure) × (h : F) × (e : E) × Called g j (a, (x, tt)) v h × (v ≡ None) × (r ≡ None)) → reading_of r ≡ weigh o ms (choices s.rest.now) (pressure_reading b)
  weighs E s t u [] None j b a r d e k m =
      let n : s.rest.now ≡ [] = none_left s.rest.now (ap (λ (i : Iter ℕ). length i.rest.now) d ∙ e.0) in
      ap reading_of m ∙ ap (λ (p : F × Pressure). pressure_reading p.1) (sym k) ∙ ap (λ (zs : List ℕ). weigh o ms (choices zs) (pressure_reading b)) (sym n)
  weighs E s t u [] (Some x) j b a r d e k m =
      let n : s.rest.now ≡ x.now ∷ u.rest.now = ap (λ (i : Iter ℕ). i.rest.now) d ∙ e in
      let called : Called g f (b, (x, tt)) m.0 m.1 = subst (λ (p : F × Pressure). Called g p.0 (p.1, (x, tt)) m.0 m.1) (sym k) m.3 in
      ap reading_of m.5 ∙ sym (weigh_quiet o ms (choices u.rest.now)) ∙
      ap (weigh o ms (choices u.rest.now)) (sym (ap reading_of m.4) ∙ (says b x m.0 m.1 called).1) ∙
      ap (λ (zs : List ℕ). weigh o ms (choices zs) (pressure_reading b)) (sym n)
  weighs E s t u (x ∷ xs) y j b a r d e k m =
      let told = says b x k.1.0 k.0.0 k.1.1 in
      let rest : FoldsTo Turn (f, k.0.1) xs (j, a) = subst (λ (h : F). FoldsTo Turn (h, k.0.1) xs (j, a)) told.0 k.2 in
      weighs E d.0 t u xs y j k.0.1 a r d.2 e rest m ∙
      ap (weigh o ms (choices d.0.rest.now)) (sym (ap reading_of k.1.2) ∙ told.1) ∙
      ap (λ (zs : List ℕ). weigh o ms (choices zs) (pressure_reading b)) (sym d.1)

is_some : {A : Type 0} (o : Option A) (P : A → Type 0) → IsSomeAnd o P → IfSome o P
is_some None P h = absurd h
is_some (Some x) P h = h

-- rules read in turn, up to the first that is not quiet
module _ (ms : List Mark) (cs : List CountRow) (xs : List ℕ) (d : RuleRow) where
  all_quiet : (rows : List RuleRow) → ((k : ℕ) → k < length rows → rule_reading ms (rule_of cs xs (get_or rows k d)) ≡ Quiet) → Quiet ≡ rules_reading ms (decode rows cs xs)
  all_quiet [] h = refl
  all_quiet (row ∷ rows) h = all_quiet rows (λ k q. h (suc k) (omega arith)) ∙ ap (λ (x : Reading). first_loud x (rules_reading ms (decode rows cs xs))) (sym (h 0 (omega arith)))

  first_pressed : (p : Pressure) (r : Reading) → first_loud (pressure_reading p) r ≡ pressure_reading p
  first_pressed NoneUnsure r = refl
  first_pressed (OneUnsure c v) r = refl

  first_at : (rows : List RuleRow) (i : ℕ) (p : Pressure) → i < length rows → ((k : ℕ) → k < i → rule_reading ms (rule_of cs xs (get_or rows k d)) ≡ Quiet) → pressure_reading p ≡ rule_reading ms (rule_of cs xs (get_or rows i d)) → pressure_reading p ≡ rules_reading ms (decode rows cs xs)
  first_at [] i p l h e = absurd (omega arith)
  first_at (row ∷ rows) zero p l h e = sym (first_pressed p _) ∙ ap (λ (x : Reading). first_loud x (rules_reading ms (decode rows cs xs))) e
  first_at (row ∷ rows) (suc i) p l h e = first_at rows i p (omega arith) (λ k q. h (suc k) (omega arith)) e ∙ ap (λ (x : Reading). first_loud x (rules_reading ms (decode rows cs xs))) (sym (h 0 (omega arith)))

  module _ {F : Type 0} (g : Mut F (Bor RuleRow × Unit {0}) (Option Pressure)) (f : F) (says : (x : Bor RuleRow) (v : Option Pressure) (q : F) → Called g f (x, tt) v q → (q ≡ f) × (reading_of v ≡ rule_reading ms (rule_of cs xs x.now))) where
    at_place : (o : Option (Bor RuleRow)) (v : Option Pressure) (row : RuleRow) → option_map (λ y. y.now) o ≡ Some row → IfSome o (λ x. Called g f (x, tt) v f) → reading_of v ≡ rule_reading ms (rule_of cs xs row)
    at_place None v row e k = absurd (none-some row e)
    at_place (Some x) v row e k = (says x v f k).1 ∙ ap (λ (y : RuleRow). rule_reading ms (rule_of cs xs y)) (same_Some x.now row e)

    pub loudest : {S : Type 0} {steps : S → Option (Bor RuleRow) → S → Type 0} (p : Run steps) (rows : List RuleRow) → ItemsMapTo p (λ y. y.now) rows → (r : Option Pressure) → MatchOption r (IsTrue p.whole × AllItemsGive p g f None) (λ y. (i : ℕ) × (i < p.len) × (p.len ≡ i + 1) × IsFirstToGive p g f (Some y) None i) → reading_of r ≡ rules_reading ms (decode rows cs xs)
    loudest p rows m None h =
        let keeps : CallKeepsClosure g f = λ a v q k. (says a.0 v q k).0 in
        all_quiet rows (λ k l. sym (at_place (p.at k) None _ (m.2 k d (omega (arith, m.1 h.0))) (h.1 keeps k)))
    loudest p rows m (Some y) h =
        let keeps : CallKeepsClosure g f = λ a v q k. (says a.0 v q k).0 in
        let k = h.3 keeps in
        first_at rows h.0 y (omega (arith, h.1, m.0)) (λ i l. sym (at_place (p.at i) None _ (m.2 i d (omega (arith, h.1))) (is_some (p.at i) _ (k.1 i l)))) (at_place (p.at h.0) (Some y) _ (m.2 h.0 d h.1) (is_some (p.at h.0) _ k.0))
