-- The search as a run that is computed: the trials and the readings that it takes, and what it finds. The readings left are what the
-- loop's measure counts.
use Rattle.std.specs.Prelude.{◌≡◌, ℕ, zero, suc, ◌+◌, ◌-◌, ◌<◌, ◌≤◌, Bool, true, false, cond, ltb, List, [], ◌∷◌, length, get_or, set, Some, None, Option, nat_lt, slice_index_or, slice_set}
use Rattle.std.proofs.Math.Path.{refl}
use Rattle.std.proofs.Common.{sym, ◌∙◌, ap, add_assoc, zero-add, arith, lt-ltb, le-ltb, length-set, set-set, get_or-set_same}
use Rattle.book.specs.declared.Answer.{Answer}
use Rattle.book.specs.declared.Mark.{Mark}
use Rattle.book.specs.declared.Mark.TheVariants.{Open, Yes, No}
use Rattle.book.specs.declared.Reading.{Reading}
use Rattle.book.specs.declared.Reading.TheVariants.{Broken, Quiet, Forced}
use Rattle.book.specs.Books.{mark_of, open_mark}
use Rattle.solver.specs.declared.trail.Step.{Step}
use Rattle.solver.specs.Steps.{place_of, Held, Unwinds}
use Rattle.solver.specs.Tree.{first_open, opens}
use Rattle.solver.specs.Marks.{opens_set, opens_unset, opens_keep, first_is, not_open, set_back}
use Rattle.solver.proofs.Trails.{step}

pub record Run : Type 0 where
  pub trials : ℕ
  pub readings : ℕ
  pub found : Option (List Mark)

abbrev pub run : ℕ → ℕ → Option (List Mark) → Run
run a b o = record { trials = a; readings = b; found = o }

-- a run after one more reading, which costs t trials
abbrev pub tick : ℕ → Run → Run
tick t r = run (t + r.trials) (1 + r.readings) r.found

abbrev pub after_of : Option (List Mark) → Run → Run → Run
after_of (Some a) r q = r
after_of None r q = run (r.trials + q.trials) (r.readings + q.readings) q.found

-- a run, and where it finds nothing another
abbrev pub after : Run → Run → Run
after r q = after_of r.found r q

abbrev pub ended : Option (List Mark) → Run
ended o = run 0 1 o

abbrev pub branch : (List Mark → Run) → List Mark → Run
branch rec ms = tick 1 (after (rec (slice_set ms (first_open ms) Yes)) (rec (slice_set ms (first_open ms) No)))

abbrev pub by_reading : (List Mark → Run) → List Mark → Reading → Run
by_reading rec ms Broken = ended None
by_reading rec ms (Forced c v) = tick 0 (rec (slice_set ms (c - 1) (mark_of v)))
by_reading rec ms Quiet = cond (nat_lt (first_open ms) (length ms)) (branch rec ms) (ended (Some ms))

run_eq : {a b c d : ℕ} {o : Option (List Mark)} → a ≡ b → c ≡ d → run a c o ≡ run b d o
run_eq {a} {b} {c} {d} {o} p q = ap (λ x. run x c o) p ∙ ap (λ x. run b x o) q

after_tick : (o : Option (List Mark)) (t : ℕ) (r q : Run) → after_of o (tick t r) q ≡ tick t (after_of o r q)
after_tick (Some a) t r q = refl
after_tick None t r q = run_eq (add_assoc t r.trials q.trials) (add_assoc 1 r.readings q.readings)

pend_tick : (b : Bool) (t : ℕ) (r q : Run) → cond b (after (tick t r) q) (tick t r) ≡ tick t (cond b (after r q) r)
pend_tick false t r q = refl
pend_tick true t r q = after_tick r.found t r q

after_found : (o : Option (List Mark)) (r q : Run) (a : List Mark) → o ≡ Some a → after_of o r q ≡ r
after_found (Some b) r q a e = refl
after_found None r q a e = cc

pend_found : (b : Bool) (r q : Run) (a : List Mark) → r.found ≡ Some a → cond b (after r q) r ≡ r
pend_found false r q a e = refl
pend_found true r q a e = after_found r.found r q a e

after_nil : (q : Run) → after (run 0 0 None) q ≡ q
after_nil q = run_eq (zero-add q.trials) (zero-add q.readings)

module _ (reads : List Mark → Reading) where
  -- the run from marks with at most that many open
  unfoldable pub explore : ℕ → List Mark → Run
  explore zero ms = by_reading (λ _. ended None) ms (reads ms)
  explore (suc f) ms = by_reading (explore f) ms (reads ms)

  -- what is left of a run whose current part comes to r: the trail taken back, with the other side of each trial on it
  abbrev finish : ℕ → List Step → List Mark → Run → Run
  finish f [] ms r = r
  finish f (s ∷ st) ms r = finish (suc f) st (slice_set ms (place_of s) Open) (cond s.trial (after r (explore f (slice_set ms (place_of s) No))) r)

  -- what is left of the search, from its trail and marks
  abbrev pub rest : List Step → List Mark → Run
  rest st ms = finish (opens ms) st ms (explore (opens ms) ms)

  finish_tick : (f : ℕ) (st : List Step) (ms : List Mark) (t : ℕ) (r : Run) → finish f st ms (tick t r) ≡ tick t (finish f st ms r)
  finish_tick f [] ms t r = refl
  finish_tick f (s ∷ st) ms t r =
      ap (finish (suc f) st (slice_set ms (place_of s) Open)) (pend_tick s.trial t r (explore f (slice_set ms (place_of s) No))) ∙
      finish_tick (suc f) st (slice_set ms (place_of s) Open) t _

  finish_found : (f : ℕ) (st : List Step) (ms : List Mark) (r : Run) (a : List Mark) → r.found ≡ Some a → finish f st ms r ≡ r
  finish_found f [] ms r a e = refl
  finish_found f (s ∷ st) ms r a e =
      ap (finish (suc f) st (slice_set ms (place_of s) Open)) (pend_found s.trial r _ a e) ∙ finish_found (suc f) st _ r a e

  at_more : (f : ℕ) (ms : List Mark) → explore (suc f) ms ≡ by_reading (explore f) ms (reads ms)
  unfolding explore
  at_more f ms = refl

  at_any : (P : Run → Type 0) (f : ℕ) (ms : List Mark) → ((rec : List Mark → Run) → P (by_reading rec ms (reads ms))) → P (explore f ms)
  unfolding explore
  at_any P zero ms h = h (λ _. ended None)
  at_any P (suc f) ms h = h (explore f)

  pub forced_rest : (st : List Step) (ms : List Mark) (c : ℕ) (v : Answer) → 0 < c → c ≤ length ms → slice_index_or ms (c - 1) Open ≡ Open → reads ms ≡ Forced c v → rest st ms ≡ tick 0 (rest (step c false ∷ st) (slice_set ms (c - 1) (mark_of v)))
  forced_rest st ms c v p h o e =
      let ms' : List Mark = set ms (c - 1) (mark_of v) in
      let lt : c - 1 < length ms = omega arith in
      let k : opens ms ≡ suc (opens ms') = opens_set ms (c - 1) (mark_of v) lt (ap open_mark o) (not_open v) in
      let x : explore (suc (opens ms')) ms ≡ tick 0 (explore (opens ms') ms') = at_more (opens ms') ms ∙ rw e in
      let y : rest st ms ≡ finish (suc (opens ms')) st ms (tick 0 (explore (opens ms') ms')) = rw (k, x) in
      let z : rest (step c false ∷ st) ms' ≡ finish (suc (opens ms')) st ms (explore (opens ms') ms') = rw (set_back ms (c - 1) (mark_of v) o) in
      y ∙ finish_tick (suc (opens ms')) st ms 0 (explore (opens ms') ms') ∙ ap (tick 0) (sym z)

  pub trial_rest : (st : List Step) (ms : List Mark) (c : ℕ) → c ≡ first_open ms + 1 → c ≤ length ms → reads ms ≡ Quiet → rest st ms ≡ tick 1 (rest (step c true ∷ st) (slice_set ms (c - 1) Yes))
  trial_rest st ms c fc le e =
      let i : ℕ = c - 1 in
      let fi : i ≡ first_open ms = omega arith in
      let ms' : List Mark = set ms i Yes in
      let lt : i < length ms = omega arith in
      let o : get_or ms i Open ≡ Open = rw fi (first_is ms (omega arith)) in
      let k : opens ms ≡ suc (opens ms') = opens_set ms i Yes lt (ap open_mark o) refl in
      let t : ltb (first_open ms) (length ms) ≡ true = lt-ltb (first_open ms) (length ms) (omega arith) in
      let f : ℕ = opens ms' in
      let q : Run = after (explore f (slice_set ms i Yes)) (explore f (slice_set ms i No)) in
      let x : explore (suc f) ms ≡ tick 1 q = at_more f ms ∙ rw (e, t, ← fi) in
      let y : rest st ms ≡ finish (suc f) st ms (tick 1 q) = rw (k, x) in
      let z : rest (step c true ∷ st) ms' ≡ finish (suc f) st ms q = rw (set_back ms i Yes o, set-set ms i Yes No) in
      y ∙ finish_tick (suc f) st ms 1 q ∙ ap (tick 1) (sym z)

  pub found_rest : (st : List Step) (ms : List Mark) → length ms ≤ first_open ms → reads ms ≡ Quiet → rest st ms ≡ ended (Some ms)
  found_rest st ms h e =
      let t : ltb (first_open ms) (length ms) ≡ false = le-ltb (first_open ms) (length ms) h in
      let x : explore (opens ms) ms ≡ ended (Some ms) = at_any (λ r. r ≡ ended (Some ms)) (opens ms) ms (λ rec. rw (e, t)) in
      ap (finish (opens ms) st ms) x ∙ finish_found (opens ms) st ms (ended (Some ms)) ms refl

  pub broken_rest : (st : List Step) (ms : List Mark) → reads ms ≡ Broken → rest st ms ≡ tick 0 (finish (opens ms) st ms (run 0 0 None))
  broken_rest st ms e =
      let x : explore (opens ms) ms ≡ ended None = at_any (λ r. r ≡ ended None) (opens ms) ms (λ rec. rw e) in
      ap (finish (opens ms) st ms) x ∙ finish_tick (opens ms) st ms 0 (run 0 0 None)

  abbrev Turned : List Mark → List Mark → List Step → Run → Type 0
  Turned ms ms' st' r = (r ≡ rest st' ms') × Held st' ms' × (length ms' ≡ length ms)

  turned_at : (b : Bool) (c : ℕ) (st st' : List Step) (ms ms' : List Mark) → Held (step c b ∷ st) ms →
      (Unwinds st (slice_set ms (c - 1) Open) ms' st' true → Turned (slice_set ms (c - 1) Open) ms' st' (finish (opens (slice_set ms (c - 1) Open)) st (slice_set ms (c - 1) Open) (run 0 0 None))) →
      Unwinds (step c b ∷ st) ms ms' st' true →
      Turned ms ms' st' (finish (opens ms) (step c b ∷ st) ms (run 0 0 None))
  turned_at true c st st' ms ms' h ih u =
      let i : ℕ = c - 1 in
      let n : opens (slice_set ms i No) ≡ opens ms = opens_keep ms i No h.2 refl in
      let back : set (slice_set ms i No) i Open ≡ set ms i Open = set-set ms i No Open in
      let long : length (slice_set ms i No) ≡ length ms = length-set ms i No in
      let x : rest (step c false ∷ st) (slice_set ms i No) ≡ finish (suc (opens ms)) st (slice_set ms i Open) (explore (opens ms) (slice_set ms i No)) = rw (n, back) in
      let here : open_mark (slice_index_or (slice_set ms i No) i Open) ≡ false = rw (get_or-set_same ms i No Open (omega (arith, h.0, h.1))) in
      let held : Held (step c false ∷ st) (slice_set ms i No) = rw back (h.0, rw long h.1, here, h.3) in
      (ap (finish (suc (opens ms)) st (slice_set ms i Open)) (after_nil (explore (opens ms) (slice_set ms i No))) ∙ rw (u.2, u.1) (sym x), rw (u.2, u.1) held, rw u.1 long)
  turned_at false c st st' ms ms' h ih u =
      let t = ih u in
      let n : opens (slice_set ms (c - 1) Open) ≡ suc (opens ms) = opens_unset ms (c - 1) h.2 in
      (rw n at t.0, t.1, t.2 ∙ length-set ms (c - 1) Open)

  -- the trail taken back to a trial, which is turned
  pub turned_rest : (st st' : List Step) (ms ms' : List Mark) → Held st ms → Unwinds st ms ms' st' true → Turned ms ms' st' (finish (opens ms) st ms (run 0 0 None))
  turned_rest [] st' ms ms' h u = cc
  turned_rest (s ∷ st) st' ms ms' h u =
      turned_at s.trial s.choice st st' ms ms' h (turned_rest st st' (slice_set ms (place_of s) Open) ms' h.3) u

  none_at : (b : Bool) (c : ℕ) (st st' : List Step) (ms ms' : List Mark) (f : ℕ) →
      (Unwinds st (slice_set ms (c - 1) Open) ms' st' false → finish (suc f) st (slice_set ms (c - 1) Open) (run 0 0 None) ≡ run 0 0 None) →
      Unwinds (step c b ∷ st) ms ms' st' false → finish f (step c b ∷ st) ms (run 0 0 None) ≡ run 0 0 None
  none_at true c st st' ms ms' f ih u = absurd (let e : false ≡ true = u.0 in cc)
  none_at false c st st' ms ms' f ih u = ih u

  -- the trail taken back whole
  pub none_rest : (st st' : List Step) (ms ms' : List Mark) (f : ℕ) → Unwinds st ms ms' st' false → finish f st ms (run 0 0 None) ≡ run 0 0 None
  none_rest [] st' ms ms' f u = refl
  none_rest (s ∷ st) st' ms ms' f u = none_at s.trial s.choice st st' ms ms' f (none_rest st st' (slice_set ms (place_of s) Open) ms' (suc f)) u
