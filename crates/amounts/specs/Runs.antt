-- The values of runs that ascend with gaps.
use Rattle.std.specs.Prelude.{◌≡◌, ℕ, ◌+◌, ◌<◌, ◌≤◌, Bool, true, false, ◌||◌, ◌⊎◌, List, [], ◌∷◌, ◌≢◌, nat_le, refl}
use Rattle.std.proofs.Common.{sym, ap, ap₂, ◌∙◌, subst, inl, inr, arith}
use Rattle.std.proofs.lemmas.Bool.{and_parts, and_from, and_left, and_right, both_ways, cases_lt, or_cases, or_left, leb-true, le-leb, lt-leb}
use Rattle.sets.specs.declared.Run.{Run}
use Rattle.sets.specs.Sets.{Values, ◌∈◌, between}
use Rattle.amounts.specs.Rows.{inside, Ascending}

pub not_true : (b : Bool) → (b ≢ true) → b ≡ false
not_true true h = absurd (h refl)
not_true false h = refl

pub or_nothing : (b : Bool) → (b || false) ≡ b
or_nothing true = refl
or_nothing false = refl

pub or_assoc : (a b c : Bool) → (a || (b || c)) ≡ ((a || b) || c)
or_assoc true b c = refl
or_assoc false b c = refl

pub between_true : (l h v : ℕ) → v ∈ between l h → (l ≤ v) × (v ≤ h)
between_true l h v e = let p = and_parts (nat_le l v) (nat_le v h) e in (leb-true l v p.0, leb-true v h p.1)

pub is_between : (l h v : ℕ) → l ≤ v → v ≤ h → v ∈ between l h
is_between l h v p q = and_from (nat_le l v) (nat_le v h) (le-leb l v p) (le-leb v h q)

pub not_between : (l h v : ℕ) → (v < l) ⊎ (h < v) → between l h v ≡ false
not_between l h v (inl p) = and_left (nat_le l v) (nat_le v h) (lt-leb l v p)
not_between l h v (inr p) = and_right (nat_le l v) (nat_le v h) (lt-leb v h p)

module _ (top : ℕ) where
  -- a member lies from `least` on and below the top
  pub inside_bounds : (least : ℕ) (rs : List Run) → Ascending top least rs → (v : ℕ) → v ∈ inside rs → (least ≤ v) × (v < top)
  inside_bounds least [] a v e = absurd (both_ways false refl e)
  inside_bounds least (r ∷ rs) a v e =
      elim (or_cases (between r.low r.high v) (inside rs v) e) [
        | inl h ↦ let b = between_true r.low r.high v h in (omega (arith, a.0), omega (arith, a.2))
        | inr h ↦ let b = inside_bounds (r.high + 2) rs a.3 v h in (omega (arith, a.0, a.1), b.1)
      ]

  pub inside_early : (least : ℕ) (rs : List Run) → Ascending top least rs → (v : ℕ) → v < least → inside rs v ≡ false
  inside_early least rs a v h = not_true (inside rs v) (λ e. omega (arith, (inside_bounds least rs a v e).0))

  -- up to the end of the first run, and one further, there is only that run
  pub first_only : (least : ℕ) (r : Run) (rs : List Run) → Ascending top least (r ∷ rs) → (v : ℕ) → v ≤ r.high + 1
      → inside (r ∷ rs) v ≡ between r.low r.high v
  first_only least r rs a v h =
      ap (λ (b : Bool). between r.low r.high v || b) (inside_early (r.high + 2) rs a.3 v (omega arith))
      ∙ or_nothing (between r.low r.high v)

-- past the first run there are only the others
pub past_first : (r : Run) (rs : List Run) (v : ℕ) → r.high < v → inside (r ∷ rs) v ≡ inside rs v
past_first r rs v h = ap (λ (b : Bool). b || inside rs v) (not_between r.low r.high v (inr h))

-- ---- runs that ascend with gaps are told by their values

pub same_run : (r t : Run) → r.low ≡ t.low → r.high ≡ t.high → r ≡ t
same_run r t p q = ap₂ (λ (x y : ℕ). record { low = x; high = y }) p q

module _ (top also least : ℕ) (r t : Run) (rs ts : List Run) (a : Ascending top least (r ∷ rs)) (b : Ascending also least (t ∷ ts))
    (h : (v : ℕ) → inside (r ∷ rs) v ≡ inside (t ∷ ts) v) where
  from_low : t.low ≤ r.low
  from_low =
      let e = h r.low in
      let m = or_left _ (inside rs r.low) (is_between r.low r.high r.low (omega arith) a.1) in
      (inside_bounds also t.low (t ∷ ts) (omega arith, b.1, b.2, b.3) r.low (sym e ∙ m)).0

  to_high : r.low ≡ t.low → t.high ≤ r.high
  to_high e =
      elim (cases_lt r.high t.high) [
        | inl k ↦
            absurd (both_ways (inside (r ∷ rs) (r.high + 1))
            (first_only top least r rs a (r.high + 1) (omega arith) ∙ not_between r.low r.high (r.high + 1) (inr (omega arith)))
            (h (r.high + 1) ∙ or_left _ (inside ts (r.high + 1)) (is_between t.low t.high (r.high + 1) (omega (arith, a.1)) (omega arith))))
        | inr k ↦ k
      ]

module _ (top also least : ℕ) (r t : Run) (rs ts : List Run) (a : Ascending top least (r ∷ rs)) (b : Ascending also least (t ∷ ts))
    (h : (v : ℕ) → inside (r ∷ rs) v ≡ inside (t ∷ ts) v) where
  first_same : r ≡ t
  first_same =
      let e : r.low ≡ t.low = omega (arith, from_low top also least r t rs ts a b h, from_low also top least t r ts rs b a (λ v. sym (h v))) in
      same_run r t e (omega (arith, to_high top also least r t rs ts a b h e, to_high also top least t r ts rs b a (λ v. sym (h v)) (sym e)))

  others_same : (v : ℕ) → inside rs v ≡ inside ts v
  others_same v =
      let e : r.high ≡ t.high = ap (λ (x : Run). x.high) first_same in
      elim (cases_lt v (r.high + 2)) [
        | inl k ↦ inside_early top (r.high + 2) rs a.3 v k ∙ sym (inside_early also (t.high + 2) ts b.3 v (omega arith))
        | inr k ↦ sym (past_first r rs v (omega arith)) ∙ h v ∙ past_first t ts v (omega arith)
      ]

pub same_runs : (top also least : ℕ) (rs ts : List Run) → Ascending top least rs → Ascending also least ts → inside rs ≡ inside ts → rs ≡ ts
same_runs top also least rs ts a b h = at least rs ts a b (λ v. ap (λ (A : Values). A v) h)
  where
    one : (l : ℕ) (r : Run) (rs : List Run) → l ≤ r.low → r.low ≤ r.high → r.low ∈ inside (r ∷ rs)
    one l r rs p q = or_left _ (inside rs r.low) (is_between r.low r.high r.low (omega arith) q)

    at : (l : ℕ) (rs ts : List Run) → Ascending top l rs → Ascending also l ts → ((v : ℕ) → inside rs v ≡ inside ts v) → rs ≡ ts
    at l [] [] a b h = refl
    at l [] (t ∷ ts) a b h = absurd (both_ways false refl (h t.low ∙ one l t ts b.0 b.1))
    at l (r ∷ rs) [] a b h = absurd (both_ways false refl (sym (h r.low) ∙ one l r rs a.0 a.1))
    at l (r ∷ rs) (t ∷ ts) a b h =
        let e = first_same top also l r t rs ts a b h in
        let f : t.high ≡ r.high = ap (λ (x : Run). x.high) (sym e) in
        ap₂ (λ (x : Run) (xs : List Run). x ∷ xs) e
        (at (r.high + 2) rs ts a.3 (subst (λ (n : ℕ). Ascending also (n + 2) ts) f b.3) (others_same top also l r t rs ts a b h))
