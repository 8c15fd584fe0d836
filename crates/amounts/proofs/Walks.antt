-- What a walk knows of the runs that are still to come.
use Rattle.std.proofs.Common.{◌≡◌, ℕ, ◌+◌, ◌^◌, ◌<◌, ◌≤◌, min, Bool, true, false, cond, not, ◌&&◌, ◌==◌, ◌⊎◌, List, [], ◌∷◌, length, is_some, MatchOption, find, Some, None, Option, ◌↔◌, IsTrue, slice_get, nat_le, sym, refl, ap, ◌∙◌, subst, inl, inr, arith}
use Rattle.std.specs.Iterator.{item_count, MakesProgress, YieldsFirst}
use Rattle.std.proofs.lemmas.Bool.{both_ways, cases_Bool, cases_lt, and_parts, and_from, eqb-true, eq-eqb, or_cases, or_left, or_right, leb-true}
use Rattle.std.proofs.lemmas.Bool.Decides.{nat_tests}
use Rattle.sets.specs.declared.Run.{Run}
use Rattle.sets.specs.Sets.{Values, ◌∈◌, nothing, between, Within}
use Rattle.amounts.specs.Rows.{counted, inside, stands, Ascending}
use Rattle.amounts.specs.RowsLemmas.{ascends, standing, counted_on, counted_off}
use Rattle.amounts.specs.declared.row.Runs.{Runs}
use Rattle.amounts.specs.Walks.{ahead, Sought, covering}
use Rattle.amounts.specs.Runs.{not_true, same_run, between_true, is_between, not_between, inside_bounds, inside_early, first_only, past_first}

-- ---- one run after another

-- nothing counts that would begin at the top or above
none_above : (top n : ℕ) (rs : List Run) → top ≤ n → counted top n rs ≡ []
none_above top n [] h = refl
none_above top n (r ∷ rs) h = counted_off top n r rs (not_true (stands top n r) (λ e. let s = standing top n r e in omega (arith, s.0, s.1, s.2)))

-- the same runs count where the least start is cut off at the last number
cut_off : (top n : ℕ) (rs : List Run) → top < 2 ^ 32 → counted top (min n 4294967295) rs ≡ counted top n rs
cut_off top n rs h = elim (cases_lt n 4294967295) [
  | inl k ↦ let e : min n 4294967295 ≡ n = omega arith in ap (λ (m : ℕ). counted top m rs) e
  | inr k ↦ none_above top (min n 4294967295) rs (omega arith) ∙ sym (none_above top n rs (omega arith))
]

-- a run that counts comes next
pub comes_next : (top least : ℕ) (r : Run) (others places : List Run) (next : ℕ) → places ≡ (r ∷ others) → top < 2 ^ 32 → stands top least r ≡ true
    → next ≡ min (r.high + 2) 4294967295 → counted top least places ≡ (r ∷ counted top next others)
comes_next top least r others places next is fits e cut =
    ap (counted top least) is ∙ counted_on top least r others e
    ∙ ap (λ (rs : List Run). r ∷ rs) (sym (ap (λ (n : ℕ). counted top n others) cut ∙ cut_off top (r.high + 2) others fits))

-- so there is one less to come
pub progress : {S : Type 0} {can : S → Type 0} (rest : S → List Run) (s t : S) (r : Run) → rest s ≡ (r ∷ rest t) → can t → MakesProgress can (item_count rest) s (Some r) t
progress rest s t r e c = record { on = λ _. (c, tt, omega (arith, ap length e)); keeps = c; rests = λ _. tt }

-- ---- the first run that does not end below a value

-- the sets need to agree only from the value on
sought_of : (A B : Values) (top from : ℕ) (o : Option Run) → ((v : ℕ) → from ≤ v → A v ≡ B v) → Sought B top from o → Sought A top from o
sought_of A B top from (Some r) same s = (s.0, s.1, s.2, λ v l k. same v l ∙ s.3 v l k)
sought_of A B top from None same s = λ v l. same v l ∙ s v l

pub sought : (top least from : ℕ) (rs : List Run) → Ascending top least rs → Sought (inside rs) top from (find (λ r. nat_le from r.high) rs)
sought top least from [] a = λ v l. refl
sought top least from (r ∷ rs) a =
    elim (cases_Bool (nat_le from r.high)) [
      | inl e ↦
          subst (λ (b : Bool). Sought (inside (r ∷ rs)) top from (cond b (Some r) (find (λ r. nat_le from r.high) rs))) (sym e)
          (a.1, leb-true from r.high e, a.2, λ v l k. first_only top least r rs a v k)
      | inr e ↦
          let below : r.high < from = grind (arith, nat_tests) in
          subst (λ (b : Bool). Sought (inside (r ∷ rs)) top from (cond b (Some r) (find (λ r. nat_le from r.high) rs))) (sym e)
          (sought_of (inside (r ∷ rs)) (inside rs) top from _ (λ v l. past_first r rs v (omega arith)) (sought top (r.high + 2) from rs a.3))
    ]

-- ---- empty

first_in : (top least : ℕ) (r : Run) (rs : List Run) → Ascending top least (r ∷ rs) → r.low ∈ inside (r ∷ rs)
first_in top least r rs a = or_left _ (inside rs r.low) (is_between r.low r.high r.low (omega arith) a.1)

-- there is no member where no run comes next
pub empty_runs : (top least : ℕ) (rs : List Run) → Ascending top least rs → (o : Option Run) → o ≡ slice_get rs 0 → (r : Bool) → is_some o ≡ not r
    → IsTrue r ↔ (inside rs ≡ nothing)
empty_runs top least [] a o e r is = (λ _. refl, λ _. let n = ap is_some e in grind (arith, nat_tests))
empty_runs top least (t ∷ rs) a o e r is = (
  λ h. let n = ap is_some e in absurd (both_ways r (grind (arith, nat_tests)) h),
  λ h. absurd (both_ways (inside (t ∷ rs) t.low) (ap (λ (A : Values). A t.low) h) (first_in top least t rs a)),
)

-- ---- what a look ahead tells

pub first_of : (xs : List Run) (r : Run) → slice_get xs 0 ≡ Some r → (rs : List Run) × (xs ≡ (r ∷ rs))
first_of [] r e = absurd cc
first_of (x ∷ xs) r e = (xs, cc)

pub none_of : (xs : List Run) → slice_get xs 0 ≡ None → xs ≡ []
none_of [] e = refl
none_of (x ∷ xs) e = absurd cc

-- what is taken is what was seen
pub taken : (xs ys : List Run) (r : Run) (o : Option Run) → slice_get xs 0 ≡ Some r → MatchOption o ((xs ≡ []) × (ys ≡ [])) (λ x. xs ≡ (x ∷ ys)) → xs ≡ (r ∷ ys)
taken xs ys r None e t = let f = first_of xs r e in absurd cc
taken xs ys r (Some x) e t = let f = first_of xs r e in cc

-- where nothing was seen, nothing is to come
pub none_seen : (xs : List Run) (o : Option Run) → o ≡ slice_get xs 0 → (r : Bool) → is_some o ≡ not r → r ≡ true → [] ≡ xs
none_seen [] o e r is h = refl
none_seen (x ∷ xs) o e r is h = let n = ap is_some e in absurd (both_ways r (grind (arith, nat_tests)) h)

-- where something was seen, it is the first that stands there
pub first_seen : (top least : ℕ) (places : List Run) (o : Option Run) → o ≡ slice_get (counted top least places) 0 → (r : Bool) → is_some o ≡ not r → r ≡ false
    → slice_get places 0 ≡ slice_get (counted top least places) 0
first_seen top least [] o e r is h = refl
first_seen top least (x ∷ xs) o e r is h = elim (cases_Bool (stands top least x)) [
  | inl s ↦ sym (ap (λ (us : List Run). slice_get us 0) (counted_on top least x xs s))
  | inr f ↦
      let n = ap is_some (e ∙ ap (λ (us : List Run). slice_get us 0) (counted_off top least x xs f)) in
      absurd (both_ways r h (grind (arith, nat_tests)))
]

-- the runs ahead ascend
pub rising : (s : Runs) → Ascending s.top 0 (ahead s)
rising s = lower (ahead s) (ascends s.top s.least s.places.now)
  where
    lower : (rs : List Run) → Ascending s.top s.least rs → Ascending s.top 0 rs
    lower [] a = tt
    lower (r ∷ rs) a = (omega arith, a.1, a.2, a.3)

-- runs are equal where their ends are
pub ends_decide : (r t : Run) → IsTrue ((r.low == t.low) && (r.high == t.high)) ↔ (r ≡ t)
ends_decide r t = (
  λ h. let p = and_parts (r.low == t.low) (r.high == t.high) h in same_run r t (eqb-true r.low t.low p.0) (eqb-true r.high t.high p.1),
  λ e. and_from (r.low == t.low) (r.high == t.high) (eq-eqb r.low t.low (ap (λ (x : Run). x.low) e)) (eq-eqb r.high t.high (ap (λ (x : Run). x.high) e)),
)

-- ---- within

-- where nothing is left, nothing has to be covered
pub none_left : (xs : List Run) (B : Values) → slice_get xs 0 ≡ None → Within (inside xs) B
none_left xs B e v m = absurd (both_ways (inside xs v) (ap (λ (us : List Run). inside us v) (none_of xs e)) m)

-- a run that another does not cover reaches out of it above or below
reaches_out : (t r : Run) → covering t r ≡ false → ((t.low ≤ r.low) × (t.high < r.high)) ⊎ (r.low < t.low)
reaches_out t r e = elim (cases_lt r.low t.low) [ inl h ↦ inr h | inr h ↦ inl (h, grind (arith, nat_tests)) ]

module _ (top also : ℕ) (r t : Run) (rs ts : List Run) (a : Ascending top 0 (r ∷ rs)) (b : Ascending also 0 (t ∷ ts)) where
  -- a run that is covered is within
  covered : covering t r ≡ true → Within (inside rs) (inside (t ∷ ts)) → Within (inside (r ∷ rs)) (inside (t ∷ ts))
  covered c w v m =
      let p = and_parts (nat_le t.low r.low) (nat_le r.high t.high) c in
      elim (or_cases (between r.low r.high v) (inside rs v) m) [
        | inl h ↦
            let k = between_true r.low r.high v h in
            or_left _ (inside ts v) (is_between t.low t.high v (omega (arith, leb-true _ _ p.0, k.0)) (omega (arith, leb-true _ _ p.1, k.1)))
        | inr h ↦ w v h
      ]

  -- a run that ends below all that is left covers none of it
  passed : t.high < r.low → Within (inside (r ∷ rs)) (inside (t ∷ ts)) → Within (inside (r ∷ rs)) (inside ts)
  passed p w v m =
      let k = (inside_bounds top r.low (r ∷ rs) (omega arith, a.1, a.2, a.3) v m).0 in
      sym (past_first t ts v (omega arith)) ∙ w v m

  -- a run that is neither covered nor wholly above is not within
  uncovered : ((t.low ≤ r.low) × (t.high < r.high)) ⊎ (r.low < t.low) → r.low ≤ t.high → Within (inside (r ∷ rs)) (inside (t ∷ ts)) → ⊥
  uncovered (inl k) p w =
      both_ways _ (first_only also 0 t ts b (t.high + 1) (omega arith) ∙ not_between t.low t.high (t.high + 1) (inr (omega arith)))
      (w (t.high + 1) (or_left _ (inside rs (t.high + 1)) (is_between r.low r.high (t.high + 1) (omega arith) (omega arith))))
  uncovered (inr k) p w = both_ways _ (inside_early also t.low (t ∷ ts) (omega arith, b.1, b.2, b.3) r.low k) (w r.low (first_in top 0 r rs a))

-- one turn of the walk, where r is the first run of s that is still to come
module _ (s t : Runs) (r : Run) (e : slice_get (ahead s) 0 ≡ Some r) where
  mine : (rs : List Run) × (ahead s ≡ (r ∷ rs))
  mine = first_of (ahead s) r e

  ascends_mine : (rs : List Run) → ahead s ≡ (r ∷ rs) → Ascending s.top 0 (r ∷ rs)
  ascends_mine rs x = subst (Ascending s.top 0) x (rising s)

  abbrev covering_of : List Run → List Run → Type 0
  covering_of us vs = Within (inside us) (inside vs)

  pub none_covers : slice_get (ahead t) 0 ≡ None → covering_of (ahead s) (ahead t) → ⊥
  none_covers f w =
      let m = subst (λ (us : List Run). r.low ∈ inside us) (sym mine.1) (first_in s.top 0 r mine.0 (ascends_mine mine.0 mine.1)) in
      both_ways false refl (sym (ap (λ (us : List Run). inside us r.low) (none_of (ahead t) f)) ∙ w r.low m)

  module _ (c : Run) (f : slice_get (ahead t) 0 ≡ Some c) where
    theirs : (cs : List Run) × (ahead t ≡ (c ∷ cs))
    theirs = first_of (ahead t) c f

    ascends_theirs : (cs : List Run) → ahead t ≡ (c ∷ cs) → Ascending t.top 0 (c ∷ cs)
    ascends_theirs cs y = subst (Ascending t.top 0) y (rising t)

    pub cannot_cover : covering c r ≡ false → r.low ≤ c.high → covering_of (ahead s) (ahead t) → ⊥
    cannot_cover n p w =
        uncovered s.top t.top r c mine.0 theirs.0 (ascends_mine mine.0 mine.1) (ascends_theirs theirs.0 theirs.1) (reaches_out c r n) p
        (subst (λ (us : List Run). covering_of us (c ∷ theirs.0)) mine.1 (subst (λ (vs : List Run). covering_of (ahead s) vs) theirs.1 w))

    module _ (o : Option Run) (next : Runs) where
      pub pass_mine : covering c r ≡ true → YieldsFirst ahead s o next → covering_of (ahead s) (ahead t) ↔ covering_of (ahead next) (ahead t)
      pass_mine k step =
          let x = taken (ahead s) (ahead next) r o e step in (
            λ w v m. w v (ap (λ (us : List Run). inside us v) x ∙ or_right _ (inside (ahead next) v) m),
            λ w. subst (λ (us : List Run). covering_of us (ahead t)) (sym x)
                (subst (λ (vs : List Run). covering_of (r ∷ ahead next) vs) (sym theirs.1)
                (covered s.top t.top r c (ahead next) theirs.0 (ascends_mine (ahead next) x) (ascends_theirs theirs.0 theirs.1) k (subst (λ (vs : List Run). covering_of (ahead next) vs) theirs.1 w))),
          )

      pub pass_theirs : c.high < r.low → YieldsFirst ahead t o next → covering_of (ahead s) (ahead t) ↔ covering_of (ahead s) (ahead next)
      pass_theirs p step =
          let y = taken (ahead t) (ahead next) c o f step in (
            λ w. subst (λ (us : List Run). covering_of us (ahead next)) (sym mine.1)
                (passed s.top t.top r c mine.0 (ahead next) (ascends_mine mine.0 mine.1) (ascends_theirs (ahead next) y) p
                (subst (λ (us : List Run). covering_of us (c ∷ ahead next)) mine.1 (subst (λ (vs : List Run). covering_of (ahead s) vs) y w))),
            λ w v m. ap (λ (us : List Run). inside us v) y ∙ or_right _ (inside (ahead next) v) (w v m),
          )
