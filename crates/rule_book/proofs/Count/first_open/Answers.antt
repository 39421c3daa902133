use Rattle.std.proofs.Common.{rules}
use Rattle.std.proofs.lemmas.Iterator.{YieldsList-from_slice}
use Rattle.std.proofs.lemmas.Iterator.Search.{find_from_yields_List}
use Rattle.book.specs.Books.{open_mark}
use Rattle.rules.specs.Rules.{mark_at}
use Rattle.rule_book.proofs.Chains.{first_found}
use Rattle.rule_book.proofs.Count.first_open.Goals as goal

pub returns : goal.returns
returns c =
    first_found c.args.marks.now c.args.self.now.choices.now c.args.answer _
    (find_from_yields_List (λ k. open_mark (mark_at c.args.marks.now k)) _ _ c.find.result c.find.ensures.ran (YieldsList-from_slice c.args.self.now.choices.now (cc)) (λ x b q k. search rules)) _ (search rules)
