-- Lists of marks: how many are open, and the lowest of them.
use Rattle.std.specs.Prelude.{◌≡◌, ℕ, zero, suc, ◌<◌, ◌≤◌, Bool, true, false, cond, List, [], ◌∷◌, length, set, replicate, ◌≢◌, slice_index_or, slice_set, refl}
use Rattle.std.proofs.Common.{sym, ◌∙◌, ap, inl, inr, arith, set-set}
use Rattle.std.proofs.lemmas.List.{set-get_or}
use Rattle.std.proofs.lemmas.Bool.{cases_lt}
use Rattle.book.specs.declared.Answer.{Answer}
use Rattle.book.specs.declared.Answer.TheVariants.{Yes as AnswerYes, No as AnswerNo}
use Rattle.book.specs.declared.Mark.{Mark}
use Rattle.book.specs.declared.Mark.TheVariants.{Open, Yes, No}
use Rattle.book.specs.Books.{mark_of, open_mark, Extends, Settled}
use Rattle.solver.specs.Tree.{first_open, opens}

more : (b : Bool) (m n : ℕ) → m ≡ suc n → cond b (suc m) m ≡ suc (cond b (suc n) n)
more true m n e = ap suc e
more false m n e = e

pub opens_set : (ms : List Mark) (i : ℕ) (m : Mark) → i < length ms → open_mark (slice_index_or ms i Open) ≡ true → open_mark m ≡ false → opens ms ≡ suc (opens (slice_set ms i m))
opens_set [] i m h o e = absurd (omega arith)
opens_set (x ∷ ms) zero m h o e = rw (o, e)
opens_set (x ∷ ms) (suc i) m h o e = more (open_mark x) _ _ (opens_set ms i m (omega arith) o e)

pub opens_unset : (ms : List Mark) (i : ℕ) → open_mark (slice_index_or ms i Open) ≡ false → opens (slice_set ms i Open) ≡ suc (opens ms)
opens_unset [] i o = cc
opens_unset (x ∷ ms) zero o = rw o
opens_unset (x ∷ ms) (suc i) o = more (open_mark x) _ _ (opens_unset ms i o)

pub opens_keep : (ms : List Mark) (i : ℕ) (m : Mark) → open_mark (slice_index_or ms i Open) ≡ false → open_mark m ≡ false → opens (slice_set ms i m) ≡ opens ms
opens_keep [] i m o e = refl
opens_keep (x ∷ ms) zero m o e = rw (o, e)
opens_keep (x ∷ ms) (suc i) m o e = ap (λ k. cond (open_mark x) (suc k) k) (opens_keep ms i m o e)

pub opens_new : (n : ℕ) → opens (replicate n Open) ≡ n
opens_new zero = refl
opens_new (suc n) = ap suc (opens_new n)

pub first_is : (ms : List Mark) → first_open ms < length ms → slice_index_or ms (first_open ms) Open ≡ Open
first_is [] h = refl
first_is (Open ∷ ms) h = refl
first_is (Yes ∷ ms) h = first_is ms (omega arith)
first_is (No ∷ ms) h = first_is ms (omega arith)

pub never_open : (v : Answer) → mark_of v ≢ Open
never_open AnswerYes e = cc
never_open AnswerNo e = cc

pub before_first : (ms : List Mark) (k : ℕ) → k < first_open ms → slice_index_or ms k Open ≢ Open
before_first [] k h o = omega arith
before_first (Open ∷ ms) k h o = omega arith
before_first (Yes ∷ ms) zero h o = never_open AnswerYes o
before_first (Yes ∷ ms) (suc k) h o = before_first ms k (omega arith) o
before_first (No ∷ ms) zero h o = never_open AnswerNo o
before_first (No ∷ ms) (suc k) h o = before_first ms k (omega arith) o

pub settled_first : (ms : List Mark) → ((k : ℕ) → k < length ms → slice_index_or ms k Open ≢ Open) → length ms ≤ first_open ms
settled_first ms s = elim (cases_lt (first_open ms) (length ms)) [ inl h ↦ absurd (s (first_open ms) h (first_is ms h)) | inr h ↦ h ]

pub not_open : (v : Answer) → open_mark (mark_of v) ≡ false
not_open AnswerYes = refl
not_open AnswerNo = refl

pub set_back : (ms : List Mark) (i : ℕ) (m : Mark) → slice_index_or ms i Open ≡ Open → slice_set (slice_set ms i m) i Open ≡ ms
set_back ms i m e = set-set ms i m Open ∙ ap (set ms i) (sym e) ∙ set-get_or ms i Open

pub get_or_new : (n k : ℕ) → slice_index_or (replicate n Open) k Open ≡ Open
get_or_new zero k = refl
get_or_new (suc n) zero = refl
get_or_new (suc n) (suc k) = get_or_new n k

-- a mark that is not open is that of an answer
pub answer_of : (m : Mark) → (m ≢ Open) → (v : Answer) × (m ≡ mark_of v)
answer_of Open h = absurd (h refl)
answer_of Yes h = (AnswerYes, refl)
answer_of No h = (AnswerNo, refl)

same_list : (xs ys : List Mark) → length xs ≡ length ys → ((k : ℕ) → k < length xs → slice_index_or xs k Open ≡ slice_index_or ys k Open) → xs ≡ ys
same_list [] [] l h = refl
same_list [] (y ∷ ys) l h = absurd (omega arith)
same_list (x ∷ xs) [] l h = absurd (omega arith)
same_list (x ∷ xs) (y ∷ ys) l h =
    let a : x ≡ y = h 0 (omega arith) in
    let b : xs ≡ ys = same_list xs ys (omega arith) (λ k q. h (suc k) (omega arith)) in
    cc

-- marks with none open are extended only by themselves
pub only_itself : (ms b : List Mark) → Settled ms → Extends ms b → ms ≡ b
only_itself ms b s x = same_list ms b (sym x.0) (λ k q. let v = answer_of (slice_index_or ms k Open) (s k q) in v.1 ∙ sym (x.1 k v.0 v.1))
