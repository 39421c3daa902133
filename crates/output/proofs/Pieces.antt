-- A text written piece by piece.
use Rattle.std.proofs.Common.{◌≡◌, ℕ, suc, ◌+◌, ◌-◌, min, take, ◌^◌, ◌<◌, ◌≤◌, ◌⊎◌, true, false, List, [], ◌∷◌, ◌++◌, length, drop, set, Some, None, Option, inl, inr, sym, refl, ap, ◌∙◌, subst, append_assoc, add-zero, add-suc, suc-add, arith, length-append, append-nil}
use Rattle.std.proofs.lemmas.List.Edits.{sets, sets-eq}
use Rattle.std.proofs.Math.Seq.{length-sets}
use Rattle.std.proofs.lemmas.List.{set_past, take-append-drop, drop_all, take_all, length-take, drop-drop}
use Rattle.std.proofs.lemmas.Bool.{cases_lt}
use Rattle.std.proofs.lemmas.Bool.{leb-true, leb-false}
use Rattle.output.specs.Writing.{Wrote, laid, beyond, within, Fits}

pub sets_append : (xs ys l : List ℕ) (i : ℕ) → sets l i (xs ++ ys) ≡ sets (sets l i xs) (i + length xs) ys
sets_append [] ys l i = ap (λ (k : ℕ). sets l k ys) (sym (add-zero i))
sets_append (x ∷ xs) ys l i =
    sets_append xs ys (set l i x) (suc i) ∙ ap (λ (k : ℕ). sets (sets (set l i x) (suc i) xs) k ys) (suc-add i (length xs) ∙ sym (add-suc i (length xs)))

-- past the end of the list nothing is written
pub sets_past : (xs l : List ℕ) (i : ℕ) → length l ≤ i → sets l i xs ≡ l
sets_past [] l i h = refl
sets_past (x ∷ xs) l i h = rw (set_past l i x h) (sets_past xs l (suc i) (omega arith))

-- what is left of a text goes unwritten where nothing is left of the list
rest_past : (text l : List ℕ) (i k : ℕ) → (length text ≤ k) ⊎ (length l ≤ i + k) → sets l i text ≡ sets l i (take k text)
rest_past text l i k h =
    let parts : sets l i (take k text ++ drop k text) ≡ sets (sets l i (take k text)) (i + length (take k text)) (drop k text) = sets_append (take k text) (drop k text) l i in
    ap (sets l i) (sym (take-append-drop k text)) ∙ parts ∙ by h
  where
    by : (length text ≤ k) ⊎ (length l ≤ i + k) → sets (sets l i (take k text)) (i + length (take k text)) (drop k text) ≡ sets l i (take k text)
    by (inl h) = rw (drop_all k text h) refl
    by (inr h) = elim (cases_lt k (length text)) [
      | inl more ↦ sets_past (drop k text) (sets l i (take k text)) (i + length (take k text)) (omega (arith, length-sets l i (take k text), length-take k text))
      | inr all ↦ rw (drop_all k text all) refl
    ]

-- of a text the part that has room is written, into the part of the list that it covers
laid_over : (out text mid : List ℕ) (at stop : ℕ) → at ≤ length out → stop ≡ min (at + length text) (length out) → mid ≡ take (stop - at) text → take at out ++ (mid ++ drop (stop - at) (drop at out)) ≡ sets out at text
laid_over out text mid at stop room s m =
    let rest : (length text ≤ stop - at) ⊎ (length out ≤ at + (stop - at)) = elim (cases_lt (length out) (at + length text)) [ inl h ↦ inr (omega arith) | inr h ↦ inl (omega arith) ] in
    let long : length (take (stop - at) text) ≡ stop - at = omega (arith, length-take (stop - at) text) in
    let after : drop (stop - at) (drop at out) ≡ drop (at + length (take (stop - at) text)) out = rw long (drop-drop (stop - at) at out) in
    rw (m, after) (sym (rest_past text out at (stop - at) rest ∙ sets-eq (take (stop - at) text) out at (omega (arith, long)) ∙ append_assoc (take at out) (take (stop - at) text) _))

-- and past the end of the list nothing is
laid_past : (out text mid : List ℕ) (at start stop : ℕ) → length out ≤ at → start ≡ length out → stop ≡ length out → mid ≡ take (stop - start) text → take start out ++ (mid ++ drop (stop - start) (drop start out)) ≡ sets out at text
laid_past out text mid at start stop far s t m =
    let none : stop - start ≡ 0 = omega arith in
    rw (m, none, s, drop_all (length out) out (omega arith), append-nil, take_all (length out) out (omega arith)) (sym (sets_past text out at far))

pub laid_there : (out text mid : List ℕ) (at start stop : ℕ) → start ≡ min at (length out) → stop ≡ min (at + length text) (length out) → mid ≡ take (stop - start) text → take start out ++ (mid ++ drop (stop - start) (drop start out)) ≡ sets out at text
laid_there out text mid at start stop s t m =
    elim (cases_lt (length out) at) [
      | inl far ↦ laid_past out text mid at start stop (omega arith) (omega arith) (omega arith) m
      | inr room ↦
          let here : start ≡ at = omega arith in
          rw here (laid_over out text mid at stop room t (rw here at m))
    ]

-- once a piece is written, the rest of the text is still to be written after it
pub piece : {xs l l' : List ℕ} {i i' : ℕ} (ys : List ℕ) → Wrote l i xs l' (Some i') → sets l i (xs ++ ys) ≡ sets l' i' ys
piece {xs} {l} ys (laid end e p) = rw (e, p) (sets_append xs ys l _)

pub place : {xs l l' : List ℕ} {i i' : ℕ} → Wrote l i xs l' (Some i') → i' ≡ i + length xs
place (laid end e p) = p

-- a text that is shown to be another
pub same_text : {xs ys l l' : List ℕ} {i : ℕ} {r : Option ℕ} → xs ≡ ys → Wrote l i ys l' r → Wrote l i xs l' r
same_text {l = l} {l' = l'} {i = i} {r = r} e w = subst (λ (t : List ℕ). Wrote l i t l' r) (sym e) w

-- a piece, and then the rest of the text, be it refused
pub and_then : {xs ys l l' l'' : List ℕ} {i i' : ℕ} {r : Option ℕ} → Wrote l i xs l' (Some i') → Wrote l' i' ys l'' r → Wrote l i (xs ++ ys) l'' r
and_then {xs} {ys} v (laid end e p) = laid end (e ∙ sym (piece ys v)) (omega (arith, place v, length-append xs ys))
and_then {xs} {ys} v (beyond h) = beyond (omega (arith, place v, length-append xs ys))

-- no text at all
pub nothing : {l : List ℕ} {i : ℕ} {xs : List ℕ} → xs ≡ [] → Wrote l i xs l (Some i)
nothing {l} {i} {xs} e = laid i (ap (sets l i) (sym e)) (omega (arith, ap length e))

-- a text whose first piece is refused is refused
pub cut : {xs l l' : List ℕ} {i : ℕ} (ys l'' : List ℕ) → Wrote l i xs l' None → Wrote l i (xs ++ ys) l'' None
cut {xs} ys l'' (beyond h) = beyond (omega (arith, length-append xs ys))

-- Writing under way, for the invariants of loops: whatever writes what is left of a text, from here, writes the whole, from
-- where it began.
abbrev pub Onward : List ℕ → ℕ → List ℕ → List ℕ → ℕ → List ℕ → Type 0
Onward out start whole now at left = (out' : List ℕ) (r : Option ℕ) → Wrote now at left out' r → Wrote out start whole out' r

-- one piece more
pub onward : {out whole now now' left left' xs : List ℕ} {start at at' : ℕ} → Onward out start whole now at left → left ≡ xs ++ left' → Wrote now at xs now' (Some at') → Onward out start whole now' at' left'
onward o e v out' r w = o out' r (same_text e (and_then v w))

-- a piece that is refused
pub onward_cut : {out whole now now' left xs : List ℕ} {start at : ℕ} (left' out' : List ℕ) → Onward out start whole now at left → left ≡ xs ++ left' → Wrote now at xs now' None → Wrote out start whole out' None
onward_cut left' out' o e v = o out' None (same_text e (cut left' out' v))

-- nothing more, and the last piece
pub onward_same : {out whole now left left' : List ℕ} {start at : ℕ} → Onward out start whole now at left → left ≡ left' → Onward out start whole now at left'
onward_same o e out' r w = o out' r (same_text e w)

-- a text that was measured over no bytes at all is as long as was answered, and with None longer than any list
pub has_room : {text m : List ℕ} {r : Option ℕ} (n : ℕ) → Wrote [] 0 text m r → within r n ≡ true → length text ≤ n
has_room n (laid end e p) h = omega (arith, leb-true end n h)
has_room n (beyond g) h = let z : ◌≡◌ {A = ℕ} 0 1 = cc in omega arith

pub no_room : {text m : List ℕ} {r : Option ℕ} (n : ℕ) → n < 2 ^ 64 → Wrote [] 0 text m r → within r n ≡ false → n < length text
no_room n small (laid end e p) h = omega (arith, leb-false end n h)
no_room n small (beyond g) h = omega arith

-- one that fits is written in front
pub fitted : {text l l' : List ℕ} {r : Option ℕ} → length l < 2 ^ 64 → length text ≤ length l → Wrote l 0 text l' r → (k : ℕ) × (r ≡ Some k) × Fits text l l' k
fitted {text} {l} small h (laid k e p) =
    (k, refl, (omega arith, omega arith, e ∙ sets-eq text l 0 (omega arith) ∙ ap (λ (n : ℕ). text ++ drop n l) (sym p)))
fitted small h (beyond g) = absurd (omega arith)
