-- What the mark of a choice is, by place.
use Rattle.std.proofs.Common.{◌≡◌, ℕ, zero, suc, ◌-◌, ◌<◌, ◌≤◌, List, [], ◌∷◌, length, get_or, sym, refl, ◌∙◌, inl, inr, arith}
use lib.ListN.{get_or-eq_default}
use Rattle.std.proofs.lemmas.Bool.{cases_lt}
use Rattle.book.specs.declared.Mark.{Mark}
use Rattle.book.specs.declared.Mark.TheVariants.{Open, No}
use Rattle.book.specs.Books.{Settled}
use Rattle.rules.specs.Rules.{mark_at}

pub no_open : No ≡ Open → ⊥
no_open e = cc

pub get_or_any : (ms : List Mark) (k : ℕ) (d e : Mark) → k < length ms → get_or ms k d ≡ get_or ms k e
get_or_any [] k d e h = absurd (omega arith)
get_or_any (m ∷ ms) zero d e h = refl
get_or_any (m ∷ ms) (suc k) d e h = get_or_any ms k d e (omega arith)

pub mark_at_in : (ms : List Mark) (c : ℕ) → 0 < c → c ≤ length ms → get_or ms (c - 1) Open ≡ mark_at ms c
mark_at_in ms zero h l = absurd (omega arith)
mark_at_in ms (suc k) h l = let e : suc k - 1 ≡ k = omega arith in rw e (get_or_any ms k Open No (omega arith))

pub mark_at_none : (ms : List Mark) (c : ℕ) → (0 < c → length ms < c) → No ≡ mark_at ms c
mark_at_none ms zero h = refl
mark_at_none ms (suc k) h = let l = h (omega arith) in sym (get_or-eq_default ms No {n = k} (omega arith))

-- what is open is a choice of the sheet
pub open_in : (ms : List Mark) (c : ℕ) → mark_at ms c ≡ Open → (0 < c) × (c ≤ length ms)
open_in ms zero e = absurd (no_open e)
open_in ms (suc k) e = elim (cases_lt k (length ms)) [ inl h ↦ (omega arith, omega arith) | inr h ↦ absurd (no_open (mark_at_none ms (suc k) (λ p. omega arith) ∙ e)) ]

-- nothing is open where all is settled
pub settled_at : (ms : List Mark) → Settled ms → (c : ℕ) → mark_at ms c ≡ Open → ⊥
settled_at ms s zero e = no_open e
settled_at ms s (suc k) e = let i = open_in ms (suc k) e in s k (omega (arith, i.1)) (get_or_any ms k Open No (omega (arith, i.1)) ∙ e)
