-- What a test of the places of a list says.
use Rattle.std.proofs.Common.{◌≡◌, ℕ, zero, suc, ◌<◌, ◌≤◌, Bool, true, false, cond, ◌⊎◌, Decides, Some, None, Option, sym, refl, ap, subst, inl, inr, arith}
use Rattle.std.specs.Option.{option_map}
use Rattle.std.specs.Str.TwoWay.{IsFirst}
use Rattle.std.proofs.lemmas.Bool.{cases_order, both_ways}
use Rattle.std.proofs.lemmas.Bool.Decides.{Decides-below_or}
use Rattle.box_book.specs.Places.{some_below, first_below}

bool_false : (b : Bool) → (b ≡ true → ⊥) → b ≡ false
bool_false true f = absurd (f refl)
bool_false false f = refl

module _ (p : ℕ → Bool) (n : ℕ) where
  some_decides : Decides (some_below p n) ((k : ℕ) × (k < n) × (p k ≡ true))
  some_decides = Decides-below_or p (λ k. p k ≡ true) (some_below p) (λ k. ((λ e. e), (λ e. e))) refl (λ _. refl) n

  pub some_true : some_below p n ≡ true → (k : ℕ) × (k < n) × (p k ≡ true)
  some_true = some_decides.0

  pub some_from : (k : ℕ) → k < n → p k ≡ true → some_below p n ≡ true
  some_from k h e = some_decides.1 (k, h, e)

  pub some_false : some_below p n ≡ false → (k : ℕ) → k < n → p k ≡ false
  some_false e k h = bool_false (p k) (λ q. both_ways (some_below p n) e (some_from k h q))

  pub none_false : ((k : ℕ) → k < n → p k ≡ true → ⊥) → some_below p n ≡ false
  none_false f = bool_false (some_below p n) (λ e. let x = some_true e in f x.0 x.1 x.2)

pub first_is : (p : ℕ → Bool) (n : ℕ) → IsFirst (λ k. p k ≡ true) 0 n (first_below p n)
first_is p zero = λ k l h. absurd (omega arith)
first_is p (suc n) = by (p zero) refl (first_below (λ k. p (suc k)) n) (first_is (λ k. p (suc k)) n)
  where
    later : (m : ℕ) → p zero ≡ false → ((k : ℕ) → 0 ≤ k → k < m → p (suc k) ≡ true → ⊥) → (k : ℕ) → 0 ≤ k → k < suc m → p k ≡ true → ⊥
    later m e f zero l h q = both_ways (p zero) e q
    later m e f (suc k) l h q = f k (omega arith) (omega arith) q

    by : (b : Bool) → p zero ≡ b → (o : Option ℕ) → IsFirst (λ k. p (suc k) ≡ true) 0 n o → IsFirst (λ k. p k ≡ true) 0 (suc n) (cond b (Some zero) (option_map suc o))
    by true e o i = (record { low = omega arith; high = omega arith; before = λ k l h. absurd (omega arith) }, e)
    by false e None i = later n e i
    by false e (Some r) i = (record { low = omega arith; high = omega (arith, i.0.high); before = later r e i.0.before }, i.1)

pub first_within : (p : ℕ → Bool) (n k : ℕ) → Some k ≡ first_below p n → k < n
first_within p n k e = let x : IsFirst (λ j. p j ≡ true) 0 n (Some k) = subst (IsFirst (λ j. p j ≡ true) 0 n) (sym e) (first_is p n) in x.0.high

-- A property of places that a test decides.
module _ (P : ℕ → Type 0) (p : ℕ → Bool) (n : ℕ) (to : (k : ℕ) → k < n → P k → p k ≡ true) (from : (k : ℕ) → k < n → p k ≡ true → P k) where
  pub some_by : (b : Bool) → Decides b ((k : ℕ) × (k < n) × P k) → b ≡ some_below p n
  some_by true d = let x = d.0 refl in sym (some_from p n x.0 x.1 (to x.0 x.1 x.2))
  some_by false d = sym (none_false p n (λ k h e. both_ways false refl (d.1 (k, h, from k h e))))

  one_first : (r s : Option ℕ) → IsFirst P 0 n r → IsFirst (λ k. p k ≡ true) 0 n s → r ≡ s
  one_first None None x y = refl
  one_first None (Some b) x y = absurd (x b y.0.low y.0.high (from b y.0.high y.1))
  one_first (Some a) None x y = absurd (y a x.0.low x.0.high (to a x.0.high x.1))
  one_first (Some a) (Some b) x y = ap Some (by (cases_order a b))
    where
      by : (a ≡ b) ⊎ ((a < b) ⊎ (b < a)) → a ≡ b
      by (inl e) = e
      by (inr (inl h)) = absurd (y.0.before a x.0.low h (to a x.0.high x.1))
      by (inr (inr h)) = absurd (x.0.before b y.0.low h (from b y.0.high y.1))

  pub first_by : (r : Option ℕ) → IsFirst P 0 n r → r ≡ first_below p n
  first_by r x = one_first r (first_below p n) x (first_is p n)
