-- Rules, and which arrangements keep them.
use Rattle.std.specs.Prelude.{◌≡◌, Bool, true, false, cond, List, [], ◌∷◌, ℕ, zero, suc, ◌+◌, leb, get_or}
use Rattle.book.specs.declared.Mark.{Mark}
use Rattle.book.specs.declared.Mark.TheVariants.{Open, Yes, No}

-- an item is a choice, or a count: a lower bound, an upper bound and choices
pub data Item : Type 0 where
  choice : ℕ → Item
  count : ℕ → ℕ → List ℕ → Item

pub record Rule : Type 0 where
  pub body : List Item
  pub head : List Item

-- the mark of a choice; what is no choice of the sheet, zero or above n, is never yes and never open
abbrev pub mark_at : List Mark → ℕ → Mark
mark_at ms zero = No
mark_at ms (suc k) = get_or ms k No

abbrev pub is_yes : Mark → Bool
is_yes Open = false
is_yes Yes = true
is_yes No = false

-- how many of the choices are yes
abbrev pub yeses : List Mark → List ℕ → ℕ
yeses ms [] = 0
yeses ms (c ∷ cs) = cond (is_yes (mark_at ms c)) 1 0 + yeses ms cs

abbrev pub both : Bool → Bool → Bool
both a b = cond a b false

abbrev pub either : Bool → Bool → Bool
either a b = cond a true b

-- a choice holds if yes; a count holds if the number of its yes choices is within both bounds
abbrev pub holds : List Mark → Item → Bool
holds ms (choice c) = is_yes (mark_at ms c)
holds ms (count k m cs) = both (leb k (yeses ms cs)) (leb (yeses ms cs) m)

abbrev pub all_hold : List Mark → List Item → Bool
all_hold ms [] = true
all_hold ms (i ∷ is) = both (holds ms i) (all_hold ms is)

abbrev pub some_holds : List Mark → List Item → Bool
some_holds ms [] = false
some_holds ms (i ∷ is) = either (holds ms i) (some_holds ms is)

-- a rule is kept unless all its body items hold and none of its head items does
abbrev pub Kept : List Mark → Rule → Type 0
Kept ms r = all_hold ms r.body ≡ true → some_holds ms r.head ≡ true

abbrev pub AllKept : List Mark → List Rule → Type 0
AllKept ms [] = Unit {0}
AllKept ms (r ∷ rs) = Kept ms r × AllKept ms rs
