-- A row in the making.
use Rattle.std.proofs.Common.{◌≡◌, ℕ, zero, suc, ◌+◌, ◌<◌, ◌≤◌, max, Bool, true, false, ◌||◌, List, [], ◌∷◌, length, get_or, set, sym, refl, ap, ◌∙◌, subst, ap₂, inl, inr, arith}
use Rattle.std.proofs.lemmas.Bool.{both_ways, or_cases}
use Rattle.std.proofs.lemmas.Bool.Decides.{nat_tests}
use Rattle.sets.specs.declared.Run.{Run}
use Rattle.sets.specs.Sets.{◌∈◌, between}
use Rattle.amounts.specs.Rows.{stands, counted, inside, Filled}
use Rattle.amounts.specs.RowsLemmas.{standing, stood, counted_on, counted_off}
use Rattle.amounts.specs.Runs.{not_true, or_assoc, between_true}

module _ (top : ℕ) where
  -- blank places count for nothing
  pub blank_counts : (l m : ℕ) (rs : List Run) → Filled top l 0 rs → counted top m rs ≡ []
  blank_counts l m [] f = refl
  blank_counts l m (r ∷ rs) f = counted_off top m r rs (not_true (stands top m r) (λ e. omega (arith, (standing top m r e).1, f.0, f.1)))

  blank_any : (l m : ℕ) (rs : List Run) → Filled top l 0 rs → Filled top m 0 rs
  blank_any l m [] f = tt
  blank_any l m (r ∷ rs) f = (f.0, f.1, blank_any l m rs f.2)

  -- a filled row has so many runs that count
  pub filled_counts : (l k : ℕ) (rs : List Run) → Filled top l k rs → length (counted top l rs) ≡ k
  filled_counts l zero rs f = ap length (blank_counts l l rs f)
  filled_counts l (suc k) [] f = absurd f
  filled_counts l (suc k) (r ∷ rs) f = ap length (counted_on top l r rs f.0) ∙ omega (arith, filled_counts (r.high + 2) k rs f.1)

  pub filled_most : (l k : ℕ) (rs : List Run) → Filled top l k rs → k ≤ length rs
  filled_most l zero rs f = omega arith
  filled_most l (suc k) [] f = absurd f
  filled_most l (suc k) (r ∷ rs) f = omega (arith, filled_most (r.high + 2) k rs f.1)

  -- the last run counts: it lies below the top
  pub last_run : (l k : ℕ) (rs : List Run) (d : Run) → Filled top l (suc k) rs
      → (l ≤ (get_or rs k d).low) × ((get_or rs k d).low ≤ (get_or rs k d).high) × ((get_or rs k d).high < top)
  last_run l k [] d f = absurd f
  last_run l zero (r ∷ rs) d f = standing top l r f.0
  last_run l (suc k) (r ∷ rs) d f =
      let s = standing top l r f.0 in
      let h = last_run (r.high + 2) k rs d f.1 in
      (omega arith, h.1, h.2)

  members_on : (l : ℕ) (r : Run) (rs : List Run) → stands top l r ≡ true → (v : ℕ)
      → inside (counted top l (r ∷ rs)) v ≡ (between r.low r.high v || inside (counted top (r.high + 2) rs) v)
  members_on l r rs e v = ap (λ (xs : List Run). inside xs v) (counted_on top l r rs e)

  -- no member lies above it
  pub last_most : (l k : ℕ) (rs : List Run) (d : Run) → Filled top l (suc k) rs → (v : ℕ) → v ∈ inside (counted top l rs) → v ≤ (get_or rs k d).high
  last_most l k [] d f v m = absurd f
  last_most l zero (r ∷ rs) d f v m =
      elim (or_cases (between r.low r.high v) _ (sym (members_on l r rs f.0 v) ∙ m)) [
        | inl h ↦ (between_true r.low r.high v h).1
        | inr h ↦ absurd (both_ways false refl (sym (ap (λ (xs : List Run). inside xs v) (blank_counts (r.high + 2) (r.high + 2) rs f.1)) ∙ h))
      ]
  last_most l (suc k) (r ∷ rs) d f v m =
      elim (or_cases (between r.low r.high v) _ (sym (members_on l r rs f.0 v) ∙ m)) [
        | inl h ↦ let b = between_true r.low r.high v h in let s = last_run (r.high + 2) k rs d f.1 in omega arith
        | inr h ↦ last_most (r.high + 2) k rs d f.1 v h
      ]

  -- ---- one run more

  -- the row after a change has so many runs, and just these members more
  pub record Grown (l k : ℕ) (rs new : List Run) (r : Run) : Type 0 where
    pub filled : Filled top l k new
    pub has : (v : ℕ) → inside (counted top l new) v ≡ (inside (counted top l rs) v || between r.low r.high v)

  -- what is done to the later runs is done to all
  under : (l k : ℕ) (x : Run) (rs new : List Run) (r : Run) → stands top l x ≡ true → Grown (x.high + 2) k rs new r → Grown l (suc k) (x ∷ rs) (x ∷ new) r
  under l k x rs new r s g =
      record {
        filled = (s, g.filled);
        has = λ v.
            members_on l x new s v ∙ ap (λ (b : Bool). between x.low x.high v || b) (g.has v)
            ∙ or_assoc (between x.low x.high v) (inside (counted top (x.high + 2) rs) v) (between r.low r.high v)
            ∙ ap (λ (b : Bool). b || between r.low r.high v) (sym (members_on l x rs s v));
      }

  -- at the end
  pub push : (l k : ℕ) (rs : List Run) (d r : Run) → Filled top l k rs → k < length rs → r.low ≤ r.high → r.high < top
      → (k ≡ 0 → l ≤ r.low) → ((j : ℕ) → k ≡ suc j → (get_or rs j d).high + 2 ≤ r.low) → Grown l (suc k) rs (set rs k r) r
  push l k [] d r f h p q z g = absurd (omega arith)
  push l zero (x ∷ rs) d r f h p q z g =
      let s = stood top l r (z refl) p q in
      record {
        filled = (s, blank_any l (r.high + 2) rs f.2);
        has = λ v.
            members_on l r rs s v
            ∙ ap₂ (λ (b c : Bool). b || c) refl (ap (λ (xs : List Run). inside xs v) (blank_counts l (r.high + 2) rs f.2))
            ∙ grind (arith, nat_tests)
            ∙ ap (λ (xs : List Run). inside xs v || between r.low r.high v) (sym (blank_counts l l (x ∷ rs) f));
      }
  push l (suc k) (x ∷ rs) d r f h p q z g =
      under l (suc k) x rs (set rs k r) r f.0
      (push (x.high + 2) k rs d r f.1 (omega arith) p q (λ e. omega (arith, g k refl, ap (λ (i : ℕ). (get_or (x ∷ rs) i d).high) e)) (λ j e. subst (λ (i : ℕ). (get_or (x ∷ rs) i d).high + 2 ≤ r.low) e (g k refl)))

  -- into the last run
  pub widen : (l k : ℕ) (rs : List Run) (d r : Run) → Filled top l (suc k) rs → (get_or rs k d).low ≤ r.low → r.low ≤ (get_or rs k d).high + 1 → r.low ≤ r.high → r.high < top
      → Grown l (suc k) rs (set rs k (record { low = (get_or rs k d).low; high = max (get_or rs k d).high r.high })) r
  widen l k [] d r f p q m t = absurd f
  widen l zero (x ∷ rs) d r f p q m t =
      let s = standing top l x f.0 in
      let wide : Run = record { low = x.low; high = max x.high r.high } in
      let w = stood top l wide s.0 (omega arith) (omega arith) in
      record {
        filled = (w, blank_any (x.high + 2) (wide.high + 2) rs f.1);
        has = λ v.
            members_on l wide rs w v
            ∙ ap₂ (λ (b c : Bool). b || c) refl (ap (λ (xs : List Run). inside xs v) (blank_counts (x.high + 2) (wide.high + 2) rs f.1))
            ∙ grind (arith, nat_tests)
            ∙ ap (λ (b : Bool). (between x.low x.high v || b) || between r.low r.high v) (sym (ap (λ (xs : List Run). inside xs v) (blank_counts (x.high + 2) (x.high + 2) rs f.1)))
            ∙ ap (λ (b : Bool). b || between r.low r.high v) (sym (members_on l x rs f.0 v));
      }
  widen l (suc k) (x ∷ rs) d r f p q m t =
      under l (suc k) x rs (set rs k (record { low = (get_or rs k d).low; high = max (get_or rs k d).high r.high })) r f.0
      (widen (x.high + 2) k rs d r f.1 p q m t)
