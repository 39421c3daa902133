-- What a book of rules means.
use Rattle.std.specs.Prelude.{◌≡◌, ℕ, List, length}
use Rattle.book.specs.declared.Mark.{Mark}
use Rattle.book.specs.Books.{Settled}
use Rattle.rules.specs.Rules.{Rule, AllKept}
use Rattle.rules.specs.Storage.{decode}
use Rattle.rule_book.specs.declared.RuleBook.{RuleBook}

-- the rules of a book, in file order
abbrev pub rules_of : RuleBook → List Rule
rules_of b = decode b.rules.now b.counts.now b.entries.now

abbrev pub size_of : RuleBook → ℕ
size_of b = b.size.value

-- the arrangements of n marks that keep every rule
abbrev pub Allowed : ℕ → List Rule → List Mark → Type 0
Allowed n rs a = (length a ≡ n) × Settled a × AllKept a rs
