-- One book before another: the first is asked first, and the second where the first is quiet. Both allow what is allowed.
use Rattle.std.specs.Prelude.{◌≡◌, ℕ, ◌⊎◌, List, refl}
use Rattle.std.proofs.Common.{inl, inr}
use Rattle.book.specs.declared.Mark.{Mark}
use Rattle.book.specs.declared.Reading.{Reading}
use Rattle.book.specs.declared.Reading.TheVariants.{Broken, Quiet, Forced}
use Rattle.book.specs.Books.{Laws, first_loud}

-- whose reading it is
said : (r s x : Reading) → first_loud r s ≡ x → (r ≡ x) ⊎ ((r ≡ Quiet) × (s ≡ x))
said Broken s x e = inl e
said (Forced c v) s x e = inl e
said Quiet s x e = inr (refl, e)

module _ (n : ℕ) (P Q : List Mark → Type 0) (R S : List Mark → Reading) (p : Laws n P R) (q : Laws n Q S) where
  pub before : Laws n (λ a. P a × Q a) (λ ms. first_loud (R ms) (S ms))
  before =
      record {
        small = p.small;
        sized = λ a h. p.sized a h.0;
        broken = λ ms l e a h x. elim (said (R ms) (S ms) Broken e) [ inl y ↦ p.broken ms l y a h.0 x | inr y ↦ q.broken ms l y.1 a h.1 x ];
        forced_open = λ ms c v l e. elim (said (R ms) (S ms) (Forced c v) e) [ inl y ↦ p.forced_open ms c v l y | inr y ↦ q.forced_open ms c v l y.1 ];
        forced = λ ms c v l e a h x. elim (said (R ms) (S ms) (Forced c v) e) [ inl y ↦ p.forced ms c v l y a h.0 x | inr y ↦ q.forced ms c v l y.1 a h.1 x ];
        settled = λ ms l s.
            elim (p.settled ms l s) [
              | inl y ↦ (elim (q.settled ms l s) [ inl z ↦ inl (rw y.0 z.0, (y.1, z.1)) | inr z ↦ inr (rw y.0 z.0, λ h. z.1 h.1) ])
              | inr y ↦ inr (rw y.0, λ h. y.1 h.0)
            ];
      }

-- what is allowed, in other words
pub reworded : (n : ℕ) (P Q : List Mark → Type 0) (R : List Mark → Reading) → ((a : List Mark) → P a → Q a) → ((a : List Mark) → Q a → P a) → Laws n P R → Laws n Q R
reworded n P Q R f g p =
    record {
      small = p.small;
      sized = λ a h. p.sized a (g a h);
      broken = λ ms l e a h x. p.broken ms l e a (g a h) x;
      forced_open = p.forced_open;
      forced = λ ms c v l e a h x. p.forced ms c v l e a (g a h) x;
      settled = λ ms l s. elim (p.settled ms l s) [ inl y ↦ inl (y.0, f ms y.1) | inr y ↦ inr (y.0, λ h. y.1 (g ms h)) ];
    }
