-- The filling of storage part by part, as the words of a file pass.
use Rattle.std.proofs.Common.{◌≡◌, ℕ, Bool, true, false, cond, List, [], length, take, sym, refl, ap, ◌∙◌, subst, inl, inr, arith}
use Rattle.rules.specs.declared.CountRow.{CountRow}
use Rattle.rules.specs.declared.RuleRow.{RuleRow}
use Rattle.rules.specs.Rules.{Rule}
use Rattle.rules.specs.Storage.{decode}
use Rattle.scan.specs.Bytes.{file_words}
use Rattle.scan.specs.Scans.{ahead}
use Rattle.scan.specs.Words.{Placed}
use Rattle.rule_file.specs.declared.fault.Fault.{Fault}
use Rattle.rule_file.specs.declared.file.FileReader.{FileReader}
use Rattle.rule_file.specs.declared.line.Part.{Part}
use Rattle.rule_file.specs.Form.{words_only, form, Within}
use Rattle.rule_file.specs.Machine.{Mach, mach, start_mach, Passes, Stops, MovedOn}
use Rattle.rule_file.specs.Reader.{is_end}
use Rattle.rule_file.proofs.Callers.{Stepping, passes_step, passes_not_refused}
use Rattle.rule_file.specs.Machine.{stops}
use Rattle.rule_store.specs.declared.fill.Filler.{Filler}
use Rattle.rule_store.specs.Storing.{Full}
use Rattle.rule_store.proofs.Back.{filled_means}
use Rattle.rule_store.specs.Filling.{Store, put_part, fills, filler_after, row_of, rules_put, counts_put, entries_put, unfilled, fresh, Filled}

-- Whatever parts the file passes as, what is left of them fills the storage as they do.
abbrev pub Going : List ℕ → Store → FileReader → Store → Type 0
Going bs start r s =
    (ps : List Part) (m : Mach) → Passes start_mach (words_only (file_words bs)) ps m →
    (qs : List Part) × Passes (mach r) (words_only (ahead r.scanner)) qs m × (fills s qs ≡ fills start ps)

-- the storage of the loop
abbrev pub store_at : Filler → FileReader → List RuleRow → List CountRow → List ℕ → Store
store_at f r rs cs xs = record { filler = f; tally = r.tally; rules = rs; counts = cs; entries = xs }

-- a part that is not the end is put in
module _ (bs : List ℕ) (start : Store) (r r' : FileReader) (p : Part) (f f' : Filler) (rs rs' : List RuleRow) (cs cs' : List CountRow) (xs xs' : List ℕ) where
  pub going_more :
      MovedOn r p r' → is_end p ≡ false → f' ≡ filler_after f r.tally p → rs' ≡ rules_put (row_of f r.tally p) rs → cs' ≡ counts_put (row_of f r.tally p) cs → xs' ≡ entries_put (row_of f r.tally p) xs →
      Going bs start r (store_at f r rs cs xs) → Going bs start r' (store_at f' r' rs' cs' xs')
  going_more w n ef er ec ex g ps m k = by (g ps m k)
    where
      rest_is : w.rest ≡ ahead r'.scanner
      rest_is = w.left ∙ ap (λ (b : Bool). cond b [] (ahead r'.scanner)) n

      same : store_at f' r' rs' cs' xs' ≡ put_part (store_at f r rs cs xs) p
      same = λ i. record { filler = ef i; tally = w.takes.tally i; rules = er i; counts = ec i; entries = ex i }

      stepped : (qs : List Part) → fills (store_at f r rs cs xs) qs ≡ fills start ps → Stepping p (mach r') (words_only w.rest) qs m →
          (qs' : List Part) × Passes (mach r') (words_only (ahead r'.scanner)) qs' m × (fills (store_at f' r' rs' cs' xs') qs' ≡ fills start ps)
      stepped qs e (inl u) = absurd (let g : true ≡ false = sym (ap is_end u.0) ∙ n in let z : ◌≡◌ {A = ℕ} 0 1 = cc in omega arith)
      stepped qs e (inr u) = (
        u.1.0,
        subst (λ (ws : List Placed). Passes (mach r') (words_only ws) u.1.0 m) rest_is u.1.2,
        ap (λ (s : Store). fills s u.1.0) same ∙ ap (fills (store_at f r rs cs xs)) (sym u.1.1) ∙ e,
      )

      by : (qs : List Part) × Passes (mach r) (words_only (ahead r.scanner)) qs m × (fills (store_at f r rs cs xs) qs ≡ fills start ps) →
          (qs' : List Part) × Passes (mach r') (words_only (ahead r'.scanner)) qs' m × (fills (store_at f' r' rs' cs' xs') qs' ≡ fills start ps)
      by x =
          stepped x.0 x.2 (passes_step (mach r') p (subst (λ (ws : List Placed). Passes (mach r) (words_only ws) x.0 m) w.was x.1) w.takes)

-- a file whose words pass is not refused
pub going_stops : (bs : List ℕ) (start : Store) (r : FileReader) (s : Store) (fault : Fault) (rs0 rs : List RuleRow) (cs0 cs : List CountRow) (xs0 xs : List ℕ) →
    Stops (mach r) (ahead r.scanner) fault → Going bs start r s → Filled bs rs0 cs0 xs0 rs cs xs
going_stops bs start r s fault rs0 rs cs0 cs xs0 xs stop g ps m k = absurd (passes_not_refused (stops stop) (g ps m k).1)

-- A file that passes as the form of some rules leaves them in the storage.
pub stored :
    (bs : List ℕ) (rows rows' : List RuleRow) (cs cs' : List CountRow) (xs xs' : List ℕ) (n : ℕ) (rs : List Rule) (m : Mach) → Filled bs rows cs xs rows' cs' xs' →
    Passes start_mach (words_only (file_words bs)) (form n (length rs) rs) m → Full (length rows) (length cs) (length xs) → Within n rs →
    decode (take (length rs) rows') cs' xs' ≡ rs
stored bs rows rows' cs cs' xs xs' n rs m filled pass full within =
    let s : Store = fills (unfilled fresh rows cs xs) (form n (length rs) rs) in
    let f = filled (form n (length rs) rs) m pass in
    ap (λ (l : List RuleRow). decode (take (length rs) l) cs' xs') f.0 ∙ ap (λ (l : List CountRow). decode (take (length rs) s.rules) l xs') f.1 ∙
    ap (λ (l : List ℕ). decode (take (length rs) s.rules) s.counts l) f.2 ∙ filled_means fresh rows cs xs n (length rs) rs full within s refl
