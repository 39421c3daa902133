use Rattle.std.proofs.Common.{◌≡◌, length, min, ◌≢◌, subst, rules, arith}
use Rattle.std.specs.Str.TwoWay.{IsFirst}
use Rattle.book.specs.declared.Mark.TheVariants.{Yes, Open}
use Rattle.box_book.specs.Runs.{Clashes}
use Rattle.box_book.specs.Causes.{box_at}
use Rattle.box_book.specs.Meaning.{mark_at}
use Rattle.box_book.proofs.Blocks.{Blocked, blocked_none, blocked_same, blocked_more, blocked_all}
use Rattle.box_book.proofs.marked.Marked.first_blocked.Goals as goal
use Rattle.box_book.proofs.marked.Marked.first_blocked.Goals.{then-eq, else-eq}

pub loop-k-init : goal.loop-k-init
loop-k-init c = blocked_none c.args.self.now.boxes.now c.args.self.now.marks.now (length c.args.self.now.boxes.now)

pub loop-k-preserved : goal.loop-k-preserved
loop-k-preserved c =
    let bs = c.args.self.now.boxes.now in
    let ms = c.args.self.now.marks.now in
    let k = c.loop-k.k in
    elim c.if-eq.branch [
      | then-eq w ↦
          let yes : mark_at ms k ≡ Yes = search rules in
          let x = subst (λ e. IsFirst (Clashes bs ms Open (box_at bs k)) 0 (min e (length bs)) w.first_clashing.result) w.unwrap_or-end.ensures w.first_clashing.ensures in
          rw (w.first-is, w.or-first.ensures) (blocked_more bs ms k (length bs) yes c.loop-k.first w.first_clashing.result c.loop-k.invariant x)
      | else-eq w ↦
          let other : mark_at ms k ≢ Yes = λ q. search rules in
          rw w.first-is (blocked_same bs ms k (length bs) other c.loop-k.first c.loop-k.invariant)
    ]

pub returns : goal.returns
returns c =
    let bs = c.args.self.now.boxes.now in
    let ms = c.args.self.now.marks.now in
    let all : c.loop-k.k ≡ length bs = omega (arith, c.loop-k-test.false, c.loop-k.auto.k-end, c.args.self.now.fit) in
    blocked_all bs ms c.loop-k.first (subst (λ k. IsFirst (Blocked bs ms k) 0 (length bs) c.loop-k.first) all c.loop-k.invariant)
