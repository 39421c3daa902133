-- A list is sound if each of its boxes is clean, and the first box that is not has the fault that is told.
use Rattle.std.proofs.Common.{◌≡◌, ℕ, zero, suc, ◌+◌, ◌<◌, ◌≤◌, ◌⊎◌, List, length, sym, subst, inl, inr, add-one, arith}
use Rattle.std.proofs.lemmas.Bool.{cases_order}
use Rattle.box_book.specs.declared.NameBox.{NameBox}
use Rattle.box_book.specs.declared.BoxCause.{BoxCause}
use Rattle.box_book.specs.declared.BoxCause.TheVariants.{TooMany, Name, Edge, NameFalls}
use Rattle.box_book.specs.Causes.{box_number, box_at, name_before, HasCause, Clean, FirstCause, CauseAt, NoFault, Leads, FirstFault, Sound}

abbrev pub CleanAt : List NameBox → ℕ → Type 0
CleanAt bs k = Clean (box_at bs k) (name_before bs k)

clean_none : (b : NameBox) (n : ℕ) → Clean b n → (c : BoxCause) → HasCause b n c → ⊥
clean_none b n h TooMany x = x
clean_none b n h Name x = x h.name_fits
clean_none b n h Edge x = x h.edges_fit
clean_none b n h NameFalls x = omega (arith, h.rises)

cause_in : (bs : List NameBox) (c : BoxCause) (k : ℕ) → length bs ≤ 4096 → CauseAt bs c k → (k < length bs) × HasCause (box_at bs k) (name_before bs k) c × (c ≡ TooMany → ⊥)
cause_in bs TooMany k few x = absurd (omega (arith, x.0))
cause_in bs Name k few x = (x.0, x.1, λ e. let z : ◌≡◌ {A = ℕ} 0 1 = cc in omega arith)
cause_in bs Edge k few x = (x.0, x.1, λ e. let z : ◌≡◌ {A = ℕ} 0 1 = cc in omega arith)
cause_in bs NameFalls k few x = (x.0, x.1, λ e. let z : ◌≡◌ {A = ℕ} 0 1 = cc in omega arith)

cause_at : (bs : List NameBox) (c : BoxCause) (k : ℕ) → k < length bs → HasCause (box_at bs k) (name_before bs k) c → CauseAt bs c k
cause_at bs TooMany k h x = absurd x
cause_at bs Name k h x = (h, x)
cause_at bs Edge k h x = (h, x)
cause_at bs NameFalls k h x = (h, x)

pub leads : (c d : BoxCause) (p k : ℕ) → (d ≡ TooMany → ⊥) → (p < k) ⊎ ((p ≡ k) × (box_number c ≤ box_number d)) → Leads c p d k
leads TooMany d p k f x = tt
leads Name d p k f x = (f, x)
leads Edge d p k f x = (f, x)
leads NameFalls d p k f x = (f, x)

sound_clean : (bs : List NameBox) → Sound bs → (k : ℕ) → k < length bs → CleanAt bs k
sound_clean bs s zero h = record { name_fits = s.names_fit 0 h; edges_fit = s.edges_fit 0 h; rises = omega arith }
sound_clean bs s (suc k) h = record { name_fits = s.names_fit (suc k) h; edges_fit = s.edges_fit (suc k) h; rises = s.rises k h }

module _ (bs : List NameBox) where
  pub sound_none : Sound bs → NoFault bs
  sound_none s c k x =
      let y = cause_in bs c k s.few x in clean_none (box_at bs k) (name_before bs k) (sound_clean bs s k y.0) c y.1

  pub sound_by : length bs ≤ 4096 → ((k : ℕ) → k < length bs → CleanAt bs k) → Sound bs
  sound_by few h = record {
    few = few;
    names_fit = λ k l. (h k l).name_fits;
    edges_fit = λ k l. (h k l).edges_fit;
    rises = λ k l. (h (suc k) l).rises;
  }

  pub found : (c : BoxCause) (i n : ℕ) → length bs ≤ 4096 → i < length bs → n ≡ name_before bs i → FirstCause (box_at bs i) n c → ((k : ℕ) → k < i → CleanAt bs k) → FirstFault bs (record { cause = c; place = i })
  found c i n few lt e f clean =
      let g : FirstCause (box_at bs i) (name_before bs i) c = subst (λ (m : ℕ). FirstCause (box_at bs i) m c) e f in
      (cause_at bs c i lt g.0, λ d k x. let y = cause_in bs d k few x in leads c d i k y.2 (by g.1 d k y.1 (cases_order i k)))
    where
      by : ((d : BoxCause) → HasCause (box_at bs i) (name_before bs i) d → box_number c ≤ box_number d) → (d : BoxCause) (k : ℕ) → HasCause (box_at bs k) (name_before bs k) d → (i ≡ k) ⊎ ((i < k) ⊎ (k < i)) → (i < k) ⊎ ((i ≡ k) × (box_number c ≤ box_number d))
      by least d k x (inl q) = inr (q, least d (subst (λ (j : ℕ). HasCause (box_at bs j) (name_before bs j) d) (sym q) x))
      by least d k x (inr (inl q)) = inl q
      by least d k x (inr (inr q)) = absurd (clean_none (box_at bs k) (name_before bs k) (clean k q) d x)

pub before_more : (bs : List NameBox) (i : ℕ) → (box_at bs i).name ≡ name_before bs (i + 1)
before_more bs i = rw add-one
