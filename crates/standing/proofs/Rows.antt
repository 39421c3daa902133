-- A row that is filled with members, and rows that are written.
use Rattle.std.proofs.Common.{◌≡◌, ℕ, List, ◌++◌, length, get_or, set, take, drop, replicate}
use Rattle.std.proofs.Math.Seq.{take-append_seam}
use Rattle.std.proofs.lemmas.List.{drop-replicate, set-get_or}
use Rattle.standing.specs.declared.Member.{Member}
use Rattle.standing.specs.Rows.{no_member, row_of}

module _ (ms xs : List Member) (e : xs ≡ ms) where
  pub shown : (zs : List Member) → take (length ms) (xs ++ zs) ≡ ms
  shown zs = rw e (take-append_seam ms zs)

  pub filled : xs ++ drop (length ms) (replicate 8 no_member) ≡ row_of (take (length ms) (xs ++ drop (length ms) (replicate 8 no_member)))
  filled = rw (shown (drop (length ms) (replicate 8 no_member)), e, drop-replicate (length ms) 8 no_member)

-- Rows of which one is written as it was. `Bans::ban` has this at hand, so that its check refuses a row that changes and not
-- the writing of one.
pub unchanged : (rows : List (List Member)) (i : ℕ) (none : List Member) → set rows i (get_or rows i none) ≡ rows
unchanged rows i none = set-get_or rows i none
