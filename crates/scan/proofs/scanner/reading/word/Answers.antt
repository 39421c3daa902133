use Rattle.std.proofs.Common.{◌≡◌, ◌<◌, ℕ, take, Some, None, sym, refl, ap, ◌∙◌, arith}
use Rattle.std.specs.List.{prefix_len, slice_get}
use Rattle.std.proofs.lemmas.List.Sums.{prefix_len-le-length}
use Rattle.std.proofs.lemmas.Option.{slice_get_within}
use Rattle.scan.specs.declared.ByteKind.TheVariants.{Digit}
use Rattle.scan.specs.Bytes.{kind, digit}
use Rattle.scan.specs.Text.{value}
use Rattle.scan.specs.Scans.{is_first, single_token}
use Rattle.scan.proofs.Steps.{cut_first, single_first, number_first, no_space}
use Rattle.scan.proofs.scanner.reading.word.Goals as goal

pub returns-in_default : goal.returns-in_default
returns-in_default c = cut_first (is_first c.args.position) c.args.position c.args.bytes.now (sym c.in_default.ensures.value)

pub returns-in_default-value : goal.returns-in_default-value
returns-in_default-value c =
    let bs = c.args.bytes.now in
    let k : kind c.in-Some.first.now ≡ Digit = sym c.in-Digit.ensures in
    let n = number_first (is_first c.args.position) bs c.in-Some.first.now (sym c.in-Some.ensures.value) k in
    let q : c.number-length.result.0 ≡ prefix_len digit bs = c.number-length.ensures.longest in
    let large : 65535 < value 0 (take (prefix_len digit bs) bs) = rw (c.in_default-value.is, q) at c.number-length.ensures.value in
    (omega (arith, prefix_len-le-length digit bs, q), (λ i. (_, _, n.1 i, (_, large, refl))))

pub returns-in-Digit : goal.returns-in-Digit
returns-in-Digit c =
    let bs = c.args.bytes.now in
    let k : kind c.in-Some.first.now ≡ Digit = sym c.in-Digit.ensures in
    let n = number_first (is_first c.args.position) bs c.in-Some.first.now (sym c.in-Some.ensures.value) k in
    let q : c.number-length.result.0 ≡ prefix_len digit bs = c.number-length.ensures.longest in
    let v : c.in-Some-value.value ≡ value 0 (take (prefix_len digit bs) bs) = rw (c.in-Some-value.is, q) at c.number-length.ensures.value in
    (omega (arith, prefix_len-le-length digit bs, q), ((λ i. rw (v, q) (n.1 i)), omega arith, (λ _. omega (arith, n.0, q))))

pub returns-in_default-single : goal.returns-in_default-single
returns-in_default-single c =
    let bs = c.args.bytes.now in
    let k : c.kind_of-kind.result ≡ kind c.in-Some.first.now = c.kind_of-kind.ensures in
    let there : slice_get bs 0 ≡ Some c.in-Some.first.now = sym c.in-Some.ensures.value in
    let no_digit : kind c.in-Some.first.now ≡ Digit → ⊥ = λ d. c.in_default-kind.not-Digit (k ∙ d) in (
      omega arith,
      (λ i.
          let one = single_first (is_first c.args.position) bs c.in-Some.first.now i there None (c.in_default-single.ensures ∙ ap (single_token c.kind_of-kind.result) c.is_first.ensures ∙ ap (λ z. single_token z (is_first c.args.position)) k) in
          (_, _, one no_digit (no_space bs c.in-Some.first.now c.requires there), refl)),
    )

pub returns : goal.returns
returns c =
    let bs = c.args.bytes.now in
    let there : slice_get bs 0 ≡ Some c.in-Some.first.now = sym c.in-Some.ensures.value in
    let one = λ (i : ℕ).
    single_first (is_first c.args.position) bs c.in-Some.first.now i there (Some (c.in-Some-single.token, c.in-Some-single.next))
    (c.in-Some-single.ensures ∙ ap (single_token c.kind_of-kind.result) c.is_first.ensures ∙ ap (λ z. single_token z (is_first c.args.position)) c.kind_of-kind.ensures) in
    (slice_get_within bs 0 c.in-Some.first.now there, ((λ i. rw (one 0).1 (one i).0), (one 0).2, (λ _. omega arith)))
