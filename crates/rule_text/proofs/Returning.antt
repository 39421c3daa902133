-- The book read back is equal to the first.
use Rattle.std.proofs.Common.{length, ◌∙◌}
use Rattle.rule_file.proofs.Spelling.{spelled_once}
use Rattle.rule_text.specs.Back.{BooksReturn}
use Rattle.rule_text.specs.Writing.{writing}
use Rattle.rule_text.proofs.Spelling.{are_files}

pub books_return : BooksReturn
books_return n rs within short x rows counts entries st =
    let same = spelled_once (writing n rs) x.size.value (length st.the_rules) n (length rs) st.the_rules rs st.file.spelled (are_files n rs within short).spelled in
    (same.0, st.means ∙ same.2)
