-- Every set that is held has just one tidy row.
use Rattle.std.proofs.Common.{◌≡◌, ℕ, zero, suc, ◌+◌, ◌<◌, ◌≤◌, max, Bool, true, false, cond, not, ◌&&◌, ◌||◌, ltb, ◌⊎◌, List, [], ◌∷◌, length, get_or, set, replicate, sym, refl, ap, ◌∙◌, subst, ap₂, inl, inr, arith, length-set}
use mathlib.Core.Path.{fun_ext}
use Rattle.std.proofs.lemmas.Bool.{and_parts, and_from, both_ways, cases_Bool, cases_eq, leb-true, ltb-true, lt-ltb, or_left, or_right}
use Rattle.std.proofs.lemmas.Bool.Decides.{nat_tests}
use Rattle.sets.specs.declared.Run.{Run}
use Rattle.sets.specs.Sets.{Values, ◌∈◌, between}
use Rattle.amounts.specs.Rows.{counted, inside, members, before, starts, few, places, Filled, Tidy}
use Rattle.amounts.specs.RowsLemmas.{standing, counted_on, ascends, places_all}
use Rattle.amounts.specs.Runs.{is_between, same_runs}
use Rattle.amounts.specs.Counting.{before_some}
use Rattle.amounts.proofs.Singles.{blanks_filled, blanks_long}
use Rattle.amounts.proofs.Drafting.{Grown, push, widen, blank_counts, filled_counts, last_run, last_most}

-- ---- only one

blank_same : (top l : ℕ) (rs ts : List Run) → Filled top l 0 rs → Filled top l 0 ts → length rs ≡ length ts → rs ≡ ts
blank_same top l [] [] f g e = refl
blank_same top l [] (t ∷ ts) f g e = absurd (omega arith)
blank_same top l (r ∷ rs) [] f g e = absurd (omega arith)
blank_same top l (r ∷ rs) (t ∷ ts) f g e =
    ap₂ (λ (x : Run) (xs : List Run). x ∷ xs) (ap₂ (λ (x y : ℕ). record { low = x; high = y }) (f.0 ∙ sym g.0) (f.1 ∙ sym g.1))
    (blank_same top l rs ts f.2 g.2 (omega arith))

filled_same : (top l k : ℕ) (rs ts : List Run) → Filled top l k rs → Filled top l k ts → length rs ≡ length ts → counted top l rs ≡ counted top l ts → rs ≡ ts
filled_same top l zero rs ts f g e h = blank_same top l rs ts f g e
filled_same top l (suc k) [] ts f g e h = absurd f
filled_same top l (suc k) (r ∷ rs) [] f g e h = absurd g
filled_same top l (suc k) (r ∷ rs) (t ∷ ts) f g e h =
    let both : (r ∷ counted top (r.high + 2) rs) ≡ (t ∷ counted top (t.high + 2) ts) = sym (counted_on top l r rs f.0) ∙ h ∙ counted_on top l t ts g.0 in
    let here : r ≡ t = cc in
    let later : counted top (r.high + 2) rs ≡ counted top (t.high + 2) ts = cc in
    let high : t.high ≡ r.high = ap (λ (x : Run). x.high) (sym here) in
    ap₂ (λ (x : Run) (xs : List Run). x ∷ xs) here
    (filled_same top (r.high + 2) k rs ts f.1 (subst (λ (n : ℕ). Filled top (n + 2) k ts) high g.1) (omega arith)
    (later ∙ ap (λ (n : ℕ). counted top (n + 2) ts) high))

one_row : (top most : ℕ) (row also : List Run) → Tidy top most row → Tidy top most also → members top row ≡ members top also → row ≡ also
one_row top most row also s t h =
    let same = same_runs top top 0 (counted top 0 row) (counted top 0 also) (ascends top 0 row) (ascends top 0 also) h in
    let count : t.count ≡ s.count = sym (filled_counts top 0 t.count also t.filled) ∙ ap length (sym same) ∙ filled_counts top 0 s.count row s.filled in
    filled_same top 0 s.count row also s.filled (subst (λ (k : ℕ). Filled top 0 k also) count t.filled) (s.long ∙ sym t.long) same

-- ---- at least one

-- the last run ends at a member
last_in : (top l k : ℕ) (rs : List Run) (d : Run) → Filled top l (suc k) rs → (get_or rs k d).high ∈ inside (counted top l rs)
last_in top l k [] d f = absurd f
last_in top l zero (r ∷ rs) d f =
    ap (λ (xs : List Run). inside xs r.high) (counted_on top l r rs f.0) ∙ or_left _ _ (is_between r.low r.high r.high (standing top l r f.0).1 (omega arith))
last_in top l (suc k) (r ∷ rs) d f =
    ap (λ (xs : List Run). inside xs (get_or rs k d).high) (counted_on top l r rs f.0)
    ∙ or_right (between r.low r.high (get_or rs k d).high) _ (last_in top (r.high + 2) k rs d f.1)

-- a row with the members of A below n
record Part (top most n : ℕ) (A : Values) : Type 0 where
  pub row : List Run
  pub filled : Filled top 0 (starts n A) row
  pub long : length row ≡ most
  pub has : (v : ℕ) → members top row v ≡ (ltb v n && A v)

none : Run
none = record { low = 0; high = 0 }

module _ (top most : ℕ) (A : Values) where
  part_none : Part top most 0 A
  unfolding starts
  part_none =
      record {
        row = replicate most (record { low = 1; high = 0 });
        filled = blanks_filled top 0 most;
        long = blanks_long most;
        has = λ v. ap (λ (xs : List Run). inside xs v) (blank_counts top 0 0 _ (blanks_filled top 0 most)) ∙ grind (arith, nat_tests);
      }

  next_count : (n : ℕ) (x y : Bool) → A n ≡ x → before n A ≡ y → starts (suc n) A ≡ starts n A + cond (x && not y) 1 0
  unfolding starts
  next_count n x y e f = ap₂ (λ (a b : Bool). starts n A + cond (a && not b) 1 0) e f

  stays_out : (n v : ℕ) → A n ≡ false → (ltb v n && A v) ≡ (ltb v (suc n) && A v)
  stays_out n v out = elim (cases_eq v n) [ inl e ↦ let same : A v ≡ A n = ap A e in grind (arith, nat_tests) | inr d ↦ grind (arith, nat_tests) ]

  comes_in : (n v : ℕ) → A n ≡ true → ((ltb v n && A v) || between n n v) ≡ (ltb v (suc n) && A v)
  comes_in n v is = elim (cases_eq v n) [ inl e ↦ let same : A v ≡ A n = ap A e in grind (arith, nat_tests) | inr d ↦ grind (arith, nat_tests) ]

  -- the value n is no member
  part_out : (n : ℕ) → A n ≡ false → Part top most n A → Part top most (suc n) A
  part_out n out p =
      let count : starts n A ≡ starts (suc n) A = omega (arith, next_count n false (before n A) out refl) in
      record {
        row = p.row;
        filled = subst (λ (k : ℕ). Filled top 0 k p.row) count p.filled;
        long = p.long;
        has = λ v. p.has v ∙ stays_out n v out;
      }

  abbrev point : ℕ → Run
  point n = record { low = n; high = n }

  -- it is one, and a row has it beside those below n
  part_in : (n : ℕ) → A n ≡ true → (p : Part top most n A) (new : List Run) → length new ≡ most → Grown top 0 (starts (suc n) A) p.row new (point n) → Part top most (suc n) A
  part_in n is p new long g =
      record {
        row = new;
        filled = g.filled;
        long = long;
        has = λ v. g.has v ∙ ap (λ (b : Bool). b || between n n v) (p.has v) ∙ comes_in n v is;
      }

  low_members : (n v : ℕ) (p : Part top most n A) → v ∈ members top p.row → (v < n) × (v ∈ A)
  low_members n v p m =
      let both = and_parts (ltb v n) (A v) (sym (p.has v) ∙ m) in
      (ltb-true v n both.0, both.1)

  before_in : (n v : ℕ) → v ∈ A → suc v ≡ n → before n A ≡ true
  unfolding before
  before_in zero v m e = absurd (omega arith)
  before_in (suc n) v m e = subst (λ (w : ℕ). w ∈ A) (let f : v ≡ n = omega arith in f) m

  -- it begins a run
  part_new : (n : ℕ) → A n ≡ true → before n A ≡ false → starts (suc n) A ≤ most → n < top → Part top most n A → Part top most (suc n) A
  part_new n is new room fits p =
      let count : suc (starts n A) ≡ starts (suc n) A = omega (arith, next_count n true false is new) in
      part_in n is p (set p.row (starts n A) (point n)) (length-set p.row (starts n A) (point n) ∙ p.long)
      (subst (λ (k : ℕ). Grown top 0 k p.row (set p.row (starts n A) (point n)) (point n)) count
      (push top 0 (starts n A) p.row none (point n) p.filled (omega (arith, p.long)) (omega arith) fits (λ _. omega arith) gap))
    where
      gap : (j : ℕ) → starts n A ≡ suc j → (get_or p.row j none).high + 2 ≤ n
      gap j e =
          let f : Filled top 0 (suc j) p.row = subst (λ (k : ℕ). Filled top 0 k p.row) e p.filled in
          let m = low_members n (get_or p.row j none).high p (last_in top 0 j p.row none f) in
          elim (cases_eq (suc (get_or p.row j none).high) n)
          [ inl k ↦ absurd (both_ways (before n A) new (before_in n (get_or p.row j none).high m.1 k)) | inr k ↦ omega (arith, m.0) ]

  -- it goes on with one
  part_on : (n : ℕ) → A n ≡ true → before n A ≡ true → n < top → Part top most n A → Part top most (suc n) A
  part_on n is on fits p = at (starts n A) refl p.filled
    where
      count : starts (suc n) A ≡ starts n A
      count = omega (arith, next_count n true true is on)

      -- the value before n is the last of the row
      there : (v : ℕ) × (suc v ≡ n) × (v ∈ members top p.row)
      there = let b = before_some n A on in (b.0, b.1, p.has b.0 ∙ and_from (ltb b.0 n) (A b.0) (lt-ltb b.0 n (omega (arith, b.1))) b.2)

      at : (k : ℕ) → starts n A ≡ k → Filled top 0 k p.row → Part top most (suc n) A
      at zero e f = absurd (both_ways false refl (sym (ap (λ (xs : List Run). inside xs there.0) (blank_counts top 0 0 p.row f)) ∙ there.2))
      at (suc k) e f =
          let last = get_or p.row k none in
          let m = low_members n last.high p (last_in top 0 k p.row none f) in
          let r = last_run top 0 k p.row none f in
          let high : suc last.high ≡ n = omega (arith, m.0, there.1, last_most top 0 k p.row none f there.0 there.2) in
          part_in n is p (set p.row k (record { low = last.low; high = max last.high n })) (length-set p.row k _ ∙ p.long)
          (subst (λ (j : ℕ). Grown top 0 j p.row (set p.row k (record { low = last.low; high = max last.high n })) (point n)) (let c : suc k ≡ starts (suc n) A = omega (arith, count) in c)
          (widen top 0 k p.row none (point n) f (omega (arith, r.1)) (omega arith) (omega arith) fits))

  starts_less : (n : ℕ) → starts n A ≤ starts (suc n) A
  unfolding starts
  starts_less n = omega arith

  part : (n : ℕ) → n ≤ top → starts n A ≤ most → Part top most n A
  part zero h few' = part_none
  part (suc n) h few' = at (part n (omega arith) (omega (arith, starts_less n))) (cases_Bool (A n)) (cases_Bool (before n A))
    where
      at : Part top most n A → (A n ≡ true) ⊎ (A n ≡ false) → (before n A ≡ true) ⊎ (before n A ≡ false) → Part top most (suc n) A
      at p (inr out) b = part_out n out p
      at p (inl is) (inl on) = part_on n is on (omega arith) p
      at p (inl is) (inr new) = part_new n is new few' (omega arith) p

-- so many runs at most, and just one tidy row
module _ (top most : ℕ) (A : Values) where
  pub some_row : ((v : ℕ) → v ∈ A → v < top) → few top most A ≡ true → (row : List Run) × Tidy top most row × (members top (places most row) ≡ A)
  some_row low held =
      let p = part top most A top (omega arith) (leb-true (starts top A) most held) in (
        p.row,
        record { count = starts top A; filled = p.filled; long = p.long },
        ap (members top) (places_all most p.row p.long) ∙ fun_ext (λ v. p.has v ∙ at v (cases_Bool (A v))),
      )
    where
      at : (v : ℕ) → (A v ≡ true) ⊎ (A v ≡ false) → (ltb v top && A v) ≡ A v
      at v (inl t) = let l = low v t in grind (arith, nat_tests)
      at v (inr f) = grind (arith, nat_tests)

  pub no_other_row : (row also : List Run) → Tidy top most row → Tidy top most also → members top (places most row) ≡ A → members top (places most also) ≡ A → row ≡ also
  no_other_row row also s t is same =
      one_row top most row also s t (ap (members top) (sym (places_all most row s.long)) ∙ is ∙ sym same ∙ ap (members top) (places_all most also t.long))
