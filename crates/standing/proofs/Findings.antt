-- What a ban finds, by its members that are not there.
use Rattle.std.proofs.Common.{◌≡◌, ◌-◌, ◌<◌, ◌≤◌, Bool, true, false, cond, ◌⊎◌, List, [], ◌∷◌, filter_map, length, get_or, is_some, Some, None, Option, Bor, Iter, refl, sym, ap, ◌∙◌, subst, inl, inr, arith}
use Rattle.std.proofs.iter.Yields.{fronts}
use Rattle.std.proofs.lemmas.Iterator.{YieldsList, YieldsList-from_slice}
use Rattle.std.proofs.lemmas.Iterator.Consumers.{YieldsList-from_filter_map, YieldsList-turn, YieldsList-end}
use Rattle.std.specs.declared.iter.FilterMap.{FilterMap}
use Rattle.std.specs.Fn.{Called}
use Rattle.std.specs.List.{cons_option}
use Rattle.std.specs.Iterator.Adapters.{filter_map_source, filter_map_callee, filter_map_steps}
use Rattle.std.specs.Slice.Iter.{iter_rest}
use denote.Param.Members.{Mut}
use Rattle.std.proofs.lemmas.Bool.{cases_eq, cases_lt, eq-eqb, ne_eqb, lt-ltb, le-ltb, true≢false, false≢true}
use Rattle.book.specs.declared.Answer.{Answer}
use Rattle.book.specs.declared.Answer.TheVariants.{Yes as AnswerYes, No as AnswerNo}
use Rattle.book.specs.declared.Mark.{Mark}
use Rattle.book.specs.declared.Mark.TheVariants.{Open, Yes, No}
use Rattle.book.specs.declared.Reading.TheVariants.{Broken, Quiet, Forced}
use Rattle.book.specs.Books.{open_mark, other_answer}
use Rattle.standing.specs.declared.Member.{Member}
use Rattle.standing.specs.Readings.{Finding, whole, lacking, neither, one_open, by_mark, member_finds, ban_finds, finding_reads, ban_reading}
use Rattle.standing.specs.Steps.{answers, is_there, is_open, lack}

module _ (ms : List Mark) where
  -- the members that are not there, each with whether its choice is open
  abbrev pub missing : List Member → List (Member × Bool)
  missing b = filter_map (λ m. lack ms m) b

  -- what is found, by those
  abbrev found : List (Member × Bool) → Finding
  found [] = whole
  found (p ∷ []) = cond p.1 (lacking p.0.choice p.0.answer) neither
  found (p ∷ q ∷ r) = neither

  -- one member more
  abbrev one_more : Bool → Bool → Member → Finding → Finding
  one_more true o m f = f
  one_more false true m f = one_open m.choice m.answer f
  one_more false false m f = neither

  finds_by : (m : Member) (f : Finding) → member_finds ms m f ≡ one_more (is_there ms m) (is_open ms m) m f
  finds_by m f = by (cases_eq m.choice 0) (cases_lt (length ms) m.choice)
    where
      on_sheet : (k : Mark) (v : Answer) → by_mark m.choice v k f ≡ one_more (answers v k) (open_mark k) (record { choice = m.choice; answer = v }) f
      on_sheet Open v = refl
      on_sheet Yes AnswerYes = refl
      on_sheet Yes AnswerNo = refl
      on_sheet No AnswerYes = refl
      on_sheet No AnswerNo = refl

      by : (m.choice ≡ 0) ⊎ (m.choice ≡ 0 → ⊥) → (length ms < m.choice) ⊎ (m.choice ≤ length ms) → member_finds ms m f ≡ one_more (is_there ms m) (is_open ms m) m f
      by (inl e) x = let z = eq-eqb m.choice 0 e in rw z
      by (inr e) (inl h) = let z = ne_eqb m.choice 0 e in let u = lt-ltb (length ms) m.choice h in let v = le-ltb (m.choice - 1) (length ms) (omega arith) in rw (z, u, v)
      by (inr e) (inr h) = let z = ne_eqb m.choice 0 e in let u = le-ltb (length ms) m.choice h in let v = lt-ltb (m.choice - 1) (length ms) (omega arith) in rw (z, u, v) (on_sheet (get_or ms (m.choice - 1) Open) m.answer)

  -- a member that is not there, before others
  lacks_one : (o : Bool) (m : Member) (l : List (Member × Bool)) → one_more false o m (found l) ≡ found ((m, o) ∷ l)
  lacks_one true m [] = refl
  lacks_one false m [] = refl
  lacks_one true m (p ∷ []) = by p.1
    where
      by : (k : Bool) → one_open m.choice m.answer (cond k (lacking p.0.choice p.0.answer) neither) ≡ neither
      by true = refl
      by false = refl
  lacks_one false m (p ∷ []) = refl
  lacks_one true m (p ∷ q ∷ r) = refl
  lacks_one false m (p ∷ q ∷ r) = refl

  more_found : (t o : Bool) (m : Member) (l : List (Member × Bool)) → one_more t o m (found l) ≡ found (cons_option (cond t None (Some (m, o))) l)
  more_found true o m l = refl
  more_found false o m l = lacks_one o m l

  finds : (b : List Member) → ban_finds ms b ≡ found (missing b)
  finds [] = refl
  finds (m ∷ b) = ap (member_finds ms m) (finds b) ∙ finds_by m (found (missing b)) ∙ more_found (is_there ms m) (is_open ms m) m (missing b)

  -- the reading, by the first that is not there, and whether there is another
  module _ (b : List Member) where
    reads : (l : List (Member × Bool)) → missing b ≡ l → ban_reading ms b ≡ finding_reads (found l)
    reads l e = ap finding_reads (finds b ∙ ap found e)

    pub none_missing : 0 ≡ length (missing b) → Broken ≡ ban_reading ms b
    none_missing h = by (missing b) refl h
      where
        by : (l : List (Member × Bool)) → missing b ≡ l → 0 ≡ length l → Broken ≡ ban_reading ms b
        by [] e h = sym (reads [] e)
        by (p ∷ l) e h = absurd (omega arith)

    pub one_missing : (p : Member × Bool) → p ≡ get_or (missing b) 0 p → 1 ≡ length (missing b) → p.1 ≡ true → Forced p.0.choice (other_answer p.0.answer) ≡ ban_reading ms b
    one_missing p = by (missing b) refl
      where
        by : (l : List (Member × Bool)) → missing b ≡ l → p ≡ get_or l 0 p → 1 ≡ length l → p.1 ≡ true → Forced p.0.choice (other_answer p.0.answer) ≡ ban_reading ms b
        by [] e q h o = absurd (omega arith)
        by (k ∷ []) e q h o = rw (reads (k ∷ []) e, ← q, o)
        by (k ∷ j ∷ l) e q h o = absurd (omega arith)

    pub two_missing : 1 < length (missing b) → Quiet ≡ ban_reading ms b
    two_missing = by (missing b) refl
      where
        by : (l : List (Member × Bool)) → missing b ≡ l → 1 < length l → Quiet ≡ ban_reading ms b
        by [] e h = absurd (omega arith)
        by (k ∷ []) e h = absurd (omega arith)
        by (k ∷ j ∷ l) e h = sym (reads (k ∷ j ∷ l) e)

    pub one_away : (p : Member × Bool) → p ≡ get_or (missing b) 0 p → 0 < length (missing b) → p.1 ≡ false → Quiet ≡ ban_reading ms b
    one_away p = by (missing b) refl
      where
        by : (l : List (Member × Bool)) → missing b ≡ l → p ≡ get_or l 0 p → 0 < length l → p.1 ≡ false → Quiet ≡ ban_reading ms b
        by [] e q h o = absurd (omega arith)
        by (k ∷ []) e q h o = rw (reads (k ∷ []) e, ← q, o)
        by (k ∷ j ∷ l) e q h o = sym (reads (k ∷ j ∷ l) e)

-- what the members that a closure says are lacking tell of the reading, by the first two
module _ {F : Type 0} {g : Mut F (Bor Member × Unit {0}) (Option (Member × Bool))} (ms : List Mark) (b : List Member) (s : FilterMap (Iter Member) F) (f : F) (from : iter_rest (filter_map_source s) ≡ b) (calls : filter_map_callee s ≡ f) (asks : (x : Bor Member) (r : Option (Member × Bool)) (q : F) → Called g f (x, tt) r q → (q ≡ f) × (r ≡ lack ms x.now)) where
  missed : YieldsList (filter_map_steps fronts g) (λ (y : Member × Bool). y) s (missing ms b)
  missed = YieldsList-from_filter_map g (λ m. lack ms m) (YieldsList-from_slice b from) calls asks

  module _ (r : Option (Member × Bool)) (t : FilterMap (Iter Member) F) (step : filter_map_steps fronts g s r t) where
    pub none_lacks : r ≡ None → Broken ≡ ban_reading ms b
    none_lacks e = none_missing ms b (YieldsList-end missed [] s refl r t e step).1

    module _ (x : Member × Bool) (e : r ≡ Some x) where
      first : (0 < length (missing ms b)) × (x ≡ get_or (missing ms b) 0 x)
      first = YieldsList-turn missed [] s refl r t x e step

      pub one_is_away : x.1 ≡ false → Quiet ≡ ban_reading ms b
      one_is_away o = one_away ms b x first.1 first.0 o

      module _ (q : Option (Member × Bool)) (u : FilterMap (Iter Member) F) (next : filter_map_steps fronts g t q u) where
        pub one_lacks : is_some q ≡ false → x.1 ≡ true → Forced x.0.choice (other_answer x.0.answer) ≡ ban_reading ms b
        one_lacks n o = by q next n
          where
            by : (q : Option (Member × Bool)) → filter_map_steps fronts g t q u → is_some q ≡ false → Forced x.0.choice (other_answer x.0.answer) ≡ ban_reading ms b
            by None k n = one_missing ms b x first.1 (YieldsList-end missed (x ∷ []) t (t, subst (λ (o : Option (Member × Bool)). filter_map_steps fronts g s o t) e step, refl) None u refl k).1 o
            by (Some y) k n = absurd (true≢false n)

        pub two_lack : is_some q ≡ true → Quiet ≡ ban_reading ms b
        two_lack n = by q next n
          where
            by : (q : Option (Member × Bool)) → filter_map_steps fronts g t q u → is_some q ≡ true → Quiet ≡ ban_reading ms b
            by None k n = absurd (false≢true n)
            by (Some y) k n = two_missing ms b (YieldsList-turn missed (x ∷ []) t (t, subst (λ (o : Option (Member × Bool)). filter_map_steps fronts g s o t) e step, refl) (Some y) u y refl k).0
