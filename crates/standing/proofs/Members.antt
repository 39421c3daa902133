-- The check of a ban, from a member on.
use Rattle.std.proofs.Common.{◌≡◌, ℕ, suc, ◌+◌, ◌<◌, ◌≤◌, Bool, true, false, cond, eqb, leb, ltb, ◌||◌, List, [], ◌∷◌, length, get_or, drop, Some, None, Option, refl}
use Rattle.std.specs.Option.{option_or}
use Rattle.std.proofs.lemmas.List.{drop_more}
use Rattle.std.proofs.lemmas.Bool.{le-ltb}
use Rattle.refusal.specs.declared.JobCause.{JobCause}
use Rattle.refusal.specs.declared.JobCause.TheVariants.{Choice, NotRising, MemberCount, BansFull}
use Rattle.refusal.specs.declared.At.{At}
use Rattle.standing.specs.declared.Member.{Member}
use Rattle.standing.specs.Steps.{member_cause}
use Rattle.standing.specs.Table.{refused, outside, member_fault, ban_fault}

-- the cause at a member, or else what is said of the later ones
abbrev told : Option JobCause → ℕ → Option (At JobCause) → Option (At JobCause)
told (Some c) i r = refused c i
told None i r = r

by_cause : (a b : Bool) (i : ℕ) (r : Option (At JobCause)) → cond a (refused Choice i) (cond b (refused NotRising i) r) ≡ told (cond a (Some Choice) (cond b (Some NotRising) None)) i r
by_cause true b i r = refl
by_cause false true i r = refl
by_cause false false i r = refl

pub fault_found : (n p i : ℕ) (bs : List Member) (rest : Option (At JobCause)) (d : Member) → i < length bs → (c : JobCause) → Some c ≡ member_cause n p (get_or bs i d).choice → member_fault n p i (drop i bs) rest ≡ refused c i
fault_found n p i bs rest d h c e =
    rw (drop_more bs i d, by_cause (outside n (get_or bs i d).choice) (leb (get_or bs i d).choice p) i (member_fault n (get_or bs i d).choice (suc i) (drop (i + 1) bs) rest), ← e)

pub counted : (n count : ℕ) (bs : List Member) → eqb (length bs) 0 ≡ false → length bs ≤ 8 → ban_fault n count bs ≡ member_fault n 0 0 bs (cond (leb 64 count) (refused BansFull 0) None)
counted n count bs e h = rw (e, le-ltb 8 (length bs) h)

-- what is said of sound members comes last
later : (n p i : ℕ) (bs : List Member) (rest : Option (At JobCause)) → member_fault n p i bs rest ≡ option_or (member_fault n p i bs None) rest
later n p i [] rest = refl
later n p i (m ∷ ms) rest = by (outside n m.choice) (leb m.choice p) _ _ (later n m.choice (suc i) ms rest)
  where
    by : (a b : Bool) (r s : Option (At JobCause)) → r ≡ option_or s rest → cond a (refused Choice i) (cond b (refused NotRising i) r) ≡ option_or (cond a (refused Choice i) (cond b (refused NotRising i) s)) rest
    by true b r s e = refl
    by false true r s e = refl
    by false false r s e = e

-- a ban is refused for its members, or else where it has no room
pub room_last : (n count : ℕ) (bs : List Member) → ban_fault n count bs ≡ option_or (ban_fault n 0 bs) (cond (leb 64 count) (refused BansFull 0) None)
room_last n count bs = by (eqb (length bs) 0 || ltb 8 (length bs))
  where
    by : (a : Bool) → cond a (refused MemberCount 0) (member_fault n 0 0 bs (cond (leb 64 count) (refused BansFull 0) None)) ≡ option_or (cond a (refused MemberCount 0) (member_fault n 0 0 bs None)) (cond (leb 64 count) (refused BansFull 0) None)
    by true = refl
    by false = later n 0 0 bs _
