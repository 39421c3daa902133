use Rattle.std.proofs.Common.{rules}
use Rattle.rule_book.proofs.Chains.{weighs}
use Rattle.rule_book.proofs.Scale.choices.Goals as goal

pub returns : goal.returns
returns c =
    let d = c.try_fold.ensures.ran in
    rw (← c.iter.ensures.rest) (weighs _ _ c.args.self.now.role c.args.self.now.marks.now (λ b x v q k. search rules) _ c.iter.result d.4.0 _ d.0 d.1 d.2 c.args.before d.3 c.try_fold.result d.4.1 d.4.2 d.5 d.6)
