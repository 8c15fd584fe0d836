-- How many maximal runs a set has below a bound. The bound is a variable here: at a large numeral `starts` would compute.
use Rattle.std.specs.Prelude.{◌≡◌, ℕ, zero, suc, ◌+◌, ◌<◌, ◌≤◌, Bool, true, false, cond, not, ◌&&◌, ◌||◌, ◌⊎◌, List, [], ◌∷◌, length}
use Rattle.std.proofs.Math.Path.{refl, ap}
use Rattle.std.proofs.Common.{ap₂, subst, arith, lit≤}
use Rattle.std.proofs.Math.Logic.{inl, inr}
use Rattle.std.proofs.lemmas.Bool.{and_left, both_ways, cases_Bool, cases_lt}
use Rattle.sets.specs.declared.Run.{Run}
use Rattle.sets.specs.Sets.{Values, ◌∈◌, nothing, between, joined}
use Rattle.amounts.specs.Rows.{inside, Ascending, before, starts}
use Rattle.amounts.specs.Runs.{not_true, between_true, is_between, not_between, inside_bounds}

pub starts_nothing : (n : ℕ) → starts n nothing ≡ 0
unfolding starts
starts_nothing zero = refl
starts_nothing (suc n) = omega (arith, starts_nothing n)

-- the value before is a member only where there is one
pub before_some : (n : ℕ) (A : Values) → before n A ≡ true → (v : ℕ) × (suc v ≡ n) × (v ∈ A)
unfolding before
before_some zero A e = absurd (both_ways false refl e)
before_some (suc n) A e = (n, refl, e)

-- a set with a member has a run
pub starts_some : (n v : ℕ) (A : Values) → v ∈ A → v < n → 1 ≤ starts n A
unfolding starts
starts_some zero v A m h = absurd (omega arith)
starts_some (suc n) v A m h =
    elim (cases_lt v n) [
      | inl l ↦ omega (arith, starts_some n v A m l)
      | inr l ↦
          let here : A n ≡ true = subst (λ (w : ℕ). w ∈ A) (let e : v ≡ n = omega arith in e) m in
          elim (cases_Bool (before n A)) [
            | inl b ↦ let s = before_some n A b in omega (arith, starts_some n s.0 A s.2 (omega (arith, s.1)))
            | inr b ↦ omega (arith, ap₂ {C = ℕ} (λ (x y : Bool). cond (x && not y) 1 0) here b)
          ]
    ]

-- ---- sets that lie apart

module _ (m : ℕ) (A B : Values) (low : (v : ℕ) → v ∈ A → v < m) (high : (v : ℕ) → v ∈ B → m < v) where
  none_low : (v : ℕ) → v ≤ m → B v ≡ false
  none_low v h = not_true (B v) (λ e. omega (arith, high v e))

  none_high : (v : ℕ) → m ≤ v → A v ≡ false
  none_high v h = not_true (A v) (λ e. omega (arith, low v e))

  before_low : (n : ℕ) → n ≤ m → before n B ≡ false
  unfolding before
  before_low zero h = refl
  before_low (suc n) h = none_low n (omega arith)

  before_high : (n : ℕ) → m < n → before n A ≡ false
  unfolding before
  before_high zero h = absurd (omega arith)
  before_high (suc n) h = none_high n (omega arith)

  before_joined : (n : ℕ) → before n (joined A B) ≡ (before n A || before n B)
  unfolding before
  before_joined zero = refl
  before_joined (suc n) = refl

  begin_apart : (a b p q : Bool) → ((b ≡ false) × (q ≡ false)) ⊎ ((a ≡ false) × (p ≡ false))
      → ◌≡◌ {A = ℕ} (cond ((a || b) && not (p || q)) 1 0) (cond (a && not p) 1 0 + cond (b && not q) 1 0)
  begin_apart true true p q (inl h) = absurd (both_ways true h.0 refl)
  begin_apart true true p q (inr h) = absurd (both_ways true h.0 refl)
  begin_apart true false true q h = refl
  begin_apart true false false true (inl h) = absurd (both_ways true h.1 refl)
  begin_apart true false false true (inr h) = absurd (both_ways true h.0 refl)
  begin_apart true false false false h = refl
  begin_apart false true true q (inl h) = absurd (both_ways true h.0 refl)
  begin_apart false true true q (inr h) = absurd (both_ways true h.1 refl)
  begin_apart false true false true h = refl
  begin_apart false true false false h = refl
  begin_apart false false p q h = refl

  -- with a value between them that is in neither, they have their runs to themselves
  pub starts_apart : (n : ℕ) → starts n (joined A B) ≡ starts n A + starts n B
  unfolding starts
  starts_apart zero = refl
  starts_apart (suc n) =
      let so_far = starts_apart n in
      let here = begin_apart (A n) (B n) (before n A) (before n B) (elim (cases_lt m n) [ inl h ↦ inr (none_high n (omega arith), before_high n h) | inr h ↦ inl (none_low n h, before_low n h) ]) in
      let same = ap {B = ℕ} (λ (t : Bool). cond ((A n || B n) && not t) 1 0) (before_joined n) in
      omega (arith, so_far, here, same)

-- ---- a run is one

run_begins : (l h n : ℕ) → l < n → (between l h n && not (before n (between l h))) ≡ false
unfolding before
run_begins l h zero p = absurd (omega arith)
run_begins l h (suc n) p =
    elim (cases_Bool (between l h (suc n))) [
      | inl e ↦ ap₂ (λ (x y : Bool). x && not y) e (is_between l h n (omega arith) (omega (arith, (between_true l h (suc n) e).1)))
      | inr e ↦ and_left (between l h (suc n)) _ e
    ]

starts_run : (l h n : ℕ) → (n ≤ l → starts n (between l h) ≡ 0) × (starts n (between l h) ≤ 1)
unfolding starts
starts_run l h zero = (λ _. refl, lit≤ tt)
starts_run l h (suc n) = at (cases_lt l n) (starts_run l h n)
  where
    at_most : (b : Bool) → cond b 1 0 ≤ 1
    at_most true = lit≤ tt
    at_most false = lit≤ tt

    at : (l < n) ⊎ (n ≤ l) → (n ≤ l → starts n (between l h) ≡ 0) × (starts n (between l h) ≤ 1)
        → (suc n ≤ l → starts n (between l h) + cond (between l h n && not (before n (between l h))) 1 0 ≡ 0)
        × (starts n (between l h) + cond (between l h n && not (before n (between l h))) 1 0 ≤ 1)
    at (inl p) ih = (λ k. absurd (omega arith), omega (arith, ih.1, ap {B = ℕ} (λ (t : Bool). cond t 1 0) (run_begins l h n p)))
    at (inr p) ih = (
      λ k. omega (arith, ih.0 p, ap {B = ℕ} (λ (t : Bool). cond (t && not (before n (between l h))) 1 0) (not_between l h n (inl k))),
      omega (arith, ih.0 p, at_most (between l h n && not (before n (between l h)))),
    )

pub run_is_one : (n l h : ℕ) → l ≤ h → l < n → starts n (between l h) ≡ 1
run_is_one n l h p q = omega (arith, (starts_run l h n).1, starts_some n l (between l h) (is_between l h l (omega arith) p) q)

-- runs that ascend with gaps are the maximal runs of their values
pub starts_inside : (top least : ℕ) (rs : List Run) → Ascending top least rs → (n : ℕ) → top ≤ n → starts n (inside rs) ≡ length rs
starts_inside top least [] a n h = starts_nothing n
starts_inside top least (r ∷ rs) a n h =
    let one = run_is_one n r.low r.high a.1 (omega (arith, a.1, a.2)) in
    let others = starts_inside top (r.high + 2) rs a.3 n h in
    let both =
    starts_apart (r.high + 1) (between r.low r.high) (inside rs) (λ v e. omega (arith, (between_true r.low r.high v e).1))
    (λ v e. omega (arith, (inside_bounds top (r.high + 2) rs a.3 v e).0)) n in
    omega (arith, one, others, both)
