use Rattle.std.proofs.Common.{◌≡◌, ◌≢◌, ℕ, ◌+◌, ◌-◌, length, take, drop, List, [], ◌∷◌, cond, rules, sym, refl, ap, subst, Result, ◌∙◌, arith}
use Rattle.std.proofs.lemmas.Bool.{true≢false}
use Rattle.std.proofs.lemmas.List.{take_rest}
use Rattle.std.proofs.lemmas.Grind.{common_steps}
use denote.Enum.Bare.{sameb, same_true}
use Rattle.scan.specs.contracts.scanner.Position.{the_type}
use Rattle.scan.specs.declared.scanner.Position.TheVariants.{LineStart}
use Rattle.scan.specs.declared.Token.{Token}
use Rattle.scan.specs.declared.ScanCause.{ScanCause}
use Rattle.scan.specs.Bytes.{words}
use Rattle.scan.specs.Scans.{WordIs, is_first, mode, final, word_of}
use Rattle.scan.proofs.Steps.{ahead_in_line, after_word, no_space_first, line_answered, at_place}
use Rattle.scan.proofs.scanner.Scanner.next_token.Goals as goal
use Rattle.scan.proofs.scanner.Scanner.next_token.Goals.{in-Line, in_default}

pub returns-then-eq-clause-answers : goal.returns-then-eq-clause-answers
returns-then-eq-clause-answers c =
    let s = c.args.self.now in
    let start : s.position ≡ LineStart = same_true the_type (search rules) _ _ (sym c.if-eq.ensures) in
    elim c.match-token.branch [
      | in-Line w ↦
          (line_answered s c.match-token.self c.rest-rest.result.now c.line_start-comments.result _ start c.rest-rest.ensures c.line_start-comments.ensures
          (ap (λ z. z.bytes.now) w.self-is) (ap (λ z. z.at) w.self-is) (λ _. ap (λ z. z.position) w.self-is) (omega arith)).0
      | in_default w ↦
          (line_answered s c.match-token.self c.rest-rest.result.now c.line_start-comments.result _ start c.rest-rest.ensures c.line_start-comments.ensures
          (ap (λ z. z.bytes.now) w.self-is) (ap (λ z. z.at) w.self-is) (λ e. absurd (w.in_default.not-Line e)) (omega arith)).0
    ]

pub returns-then-eq-clause-falls : goal.returns-then-eq-clause-falls
returns-then-eq-clause-falls c =
    let s = c.args.self.now in
    let start : s.position ≡ LineStart = same_true the_type (search rules) _ _ (sym c.if-eq.ensures) in
    elim c.match-token.branch [
      | in-Line w ↦
          (line_answered s c.match-token.self c.rest-rest.result.now c.line_start-comments.result c.match-token.self.at start c.rest-rest.ensures c.line_start-comments.ensures
          (ap (λ z. z.bytes.now) w.self-is) (ap (λ z. z.at) w.self-is) (λ _. ap (λ z. z.position) w.self-is) refl).1
      | in_default w ↦
          (line_answered s c.match-token.self c.rest-rest.result.now c.line_start-comments.result c.match-token.self.at start c.rest-rest.ensures c.line_start-comments.ensures
          (ap (λ z. z.bytes.now) w.self-is) (ap (λ z. z.at) w.self-is) (λ e. absurd (w.in_default.not-Line e)) refl).1
    ]

pub word-found-requires : goal.word-found-requires
word-found-requires c = rw (take_rest, c.past_spaces-spaces.ensures.longest) (no_space_first c.rest-rest.result.now)

pub returns-in-Err-clause-answers : goal.returns-in-Err-clause-answers
returns-in-Err-clause-answers c =
    let s = c.args.self.now in
    let n : ℕ = s.at + c.past_spaces-spaces.result.0 in
    let rest : List ℕ = take (length c.rest-rest.result.now - c.past_spaces-spaces.result.0) (drop c.past_spaces-spaces.result.0 c.rest-rest.result.now) in
    let e = subst (λ (z : Result Token ScanCause). WordIs (is_first c.past_spaces-spaces.result.1) rest z c.word-found.result.length c.word-found.result.next) c.in-Err.is c.word-found.ensures.1 n in
    let past : s.position ≢ LineStart = λ p. true≢false (sym (c.if-eq.ensures ∙ ap (λ z. sameb the_type z LineStart) p)) in
    let ahead_here = ahead_in_line s.bytes.now c.rest-rest.result.now s.at c.past_spaces-spaces.result.0 s.position c.past_spaces-spaces.result.1 c.rest-rest.ensures c.past_spaces-spaces.ensures.longest past c.past_spaces-spaces.ensures.next in
    (e.0, e.1, ahead_here ∙ e.2, e.3)

-- The place is told equal by `grind`, so that another way to find it needs no other answer.
pub returns-in-Ok-clause-answers : goal.returns-in-Ok-clause-answers
returns-in-Ok-clause-answers c =
    let s = c.args.self.now in
    let f = c.word-found.result in
    let t = c.in-Ok.token in
    let n : ℕ = s.at + c.past_spaces-spaces.result.0 in
    let rest : List ℕ = take (length c.rest-rest.result.now - c.past_spaces-spaces.result.0) (drop c.past_spaces-spaces.result.0 c.rest-rest.result.now) in
    let e = subst (λ (z : Result Token ScanCause). WordIs (is_first c.past_spaces-spaces.result.1) rest z f.length f.next) c.in-Ok.is c.word-found.ensures.1 in
    let past : s.position ≢ LineStart = λ p. true≢false (sym (c.if-eq.ensures ∙ ap (λ z. sameb the_type z LineStart) p)) in
    let ahead_here = ahead_in_line s.bytes.now c.rest-rest.result.now s.at c.past_spaces-spaces.result.0 s.position c.past_spaces-spaces.result.1 c.rest-rest.ensures c.past_spaces-spaces.ensures.longest past c.past_spaces-spaces.ensures.next in (
      at_place _ n _ _ _ (grind (arith, common_steps)) (
          ahead_here ∙ e.0 n ∙
          ap (λ (z : List ℕ). (n, word_of t) ∷ cond (final t) [] (words (mode f.next) (n + f.length) z))
          (after_word s.bytes.now c.rest-rest.result.now s.at c.past_spaces-spaces.result.0 f.length c.rest-rest.ensures)
          ),
      e.1,
    )
