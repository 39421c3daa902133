-- What a byte's kind says of the byte.
use Rattle.std.proofs.Common.{◌≡◌, ℕ, Bool, true, false, cond, eqb, ◌≢◌, [], ◌∷◌, refl, subst}
use Rattle.std.specs.List.{All}
use Rattle.std.proofs.lemmas.List.Elements.{All-cons, All-nil}
use Rattle.std.proofs.lemmas.Bool.{leb-true, le-leb, eqb-true, eqb-false, and_parts, and_from, both_ways}
use Rattle.scan.specs.declared.ByteKind.{ByteKind}
use Rattle.scan.specs.declared.ByteKind.TheVariants.{Digit, Space, Feed, Open, Close, Comma, Header, Comment, Other}
use Rattle.scan.specs.Bytes.{digit, kind}
use Rattle.scan.specs.Text.{IsDigit, NoDigit}

pub digit_is : (b : ℕ) → digit b ≡ true → IsDigit b
digit_is b e = let p = and_parts _ _ e in (leb-true 48 b p.0, leb-true b 57 p.1)

pub is_digit : (b : ℕ) → IsDigit b → digit b ≡ true
is_digit b d = and_from _ _ (le-leb 48 b d.0) (le-leb b 57 d.1)

pub no_digit : (b : ℕ) → NoDigit b → digit b ≡ false
no_digit b n = at (digit b) refl
  where
    at : (x : Bool) → digit b ≡ x → x ≡ false
    at true e = absurd (n (digit_is b e))
    at false e = refl

-- the bytes of each kind
abbrev pub Kinded : ℕ → ByteKind → Type 0
Kinded b Digit = IsDigit b
Kinded b Space = b ≡ 32
Kinded b Feed = b ≡ 10
Kinded b Open = b ≡ 123
Kinded b Close = b ≡ 125
Kinded b Comma = b ≡ 44
Kinded b Header = b ≡ 112
Kinded b Comment = b ≡ 99
Kinded b Other = NoDigit b × All (λ c. b ≢ c) (10 ∷ 32 ∷ 44 ∷ 99 ∷ 112 ∷ 123 ∷ 125 ∷ [])

pub kinded : (b : ℕ) → Kinded b (kind b)
kinded b = at (digit b) (eqb b 32) (eqb b 10) (eqb b 123) (eqb b 125) (eqb b 44) (eqb b 112) (eqb b 99) refl refl refl refl refl refl refl refl
  where
    at :
        (d s f o c m h k : Bool) → digit b ≡ d → eqb b 32 ≡ s → eqb b 10 ≡ f → eqb b 123 ≡ o → eqb b 125 ≡ c → eqb b 44 ≡ m → eqb b 112 ≡ h → eqb b 99 ≡ k →
        Kinded b (cond d Digit (cond s Space (cond f Feed (cond o Open (cond c Close (cond m Comma (cond h Header (cond k Comment Other))))))))
    at true s f o c m h k d' s' f' o' c' m' h' k' = digit_is b d'
    at false true f o c m h k d' s' f' o' c' m' h' k' = eqb-true b 32 s'
    at false false true o c m h k d' s' f' o' c' m' h' k' = eqb-true b 10 f'
    at false false false true c m h k d' s' f' o' c' m' h' k' = eqb-true b 123 o'
    at false false false false true m h k d' s' f' o' c' m' h' k' = eqb-true b 125 c'
    at false false false false false true h k d' s' f' o' c' m' h' k' = eqb-true b 44 m'
    at false false false false false false true k d' s' f' o' c' m' h' k' = eqb-true b 112 h'
    at false false false false false false false true d' s' f' o' c' m' h' k' = eqb-true b 99 k'
    at false false false false false false false false d' s' f' o' c' m' h' k' =
        let P : ℕ → Type 0 = λ c. b ≢ c in (
          (λ i. both_ways (digit b) d' (is_digit b i)),
          All-cons P 10 (32 ∷ 44 ∷ 99 ∷ 112 ∷ 123 ∷ 125 ∷ []) (eqb-false b 10 f') (All-cons P 32 (44 ∷ 99 ∷ 112 ∷ 123 ∷ 125 ∷ []) (eqb-false b 32 s') (
              All-cons P 44 (99 ∷ 112 ∷ 123 ∷ 125 ∷ []) (eqb-false b 44 m') (All-cons P 99 (112 ∷ 123 ∷ 125 ∷ []) (eqb-false b 99 k') (
              All-cons P 112 (123 ∷ 125 ∷ []) (eqb-false b 112 h') (All-cons P 123 (125 ∷ []) (eqb-false b 123 o') (All-cons P 125 [] (eqb-false b 125 c') (All-nil P))))))),
        )

pub of_kind : (b : ℕ) (k : ByteKind) → kind b ≡ k → Kinded b k
of_kind b k e = subst (Kinded b) e (kinded b)

pub digit_kind : (b : ℕ) → IsDigit b → kind b ≡ Digit
digit_kind b d = rw (is_digit b d)
