-- What the runs of two rows give, one piece after another.
use Rattle.std.proofs.Common.{◌≡◌, ℕ, ◌+◌, ◌<◌, ◌≤◌, min, max, Bool, true, false, ◌&&◌, ◌||◌, List, [], ◌∷◌, MatchOption, Some, None, Option, Result, slice_get, length, nat_le, ◌⊎◌, sym, refl, ap, ◌∙◌, subst, ap₂, inl, inr, arith}
use mathlib.Core.Path.{fun_ext}
use Rattle.std.proofs.lemmas.Bool.{and_parts, and_right, both_ways, cases_Bool, cases_lt, or_cases, leb-true}
use Rattle.std.proofs.lemmas.Bool.Decides.{nat_tests}
use Rattle.sets.specs.declared.Run.{Run}
use Rattle.sets.specs.Sets.{Values, ◌∈◌, nothing, between, met, joined}
use Rattle.sets.specs.declared.SetRefusal.{SetRefusal}
use Rattle.amounts.specs.Rows.{counted, inside, places, Ascending}
use Rattle.amounts.specs.Drafts.{Made}
use Rattle.amounts.specs.Held.{below}
use Rattle.amounts.specs.Pairs.{both_left, count_left, either_left}
use Rattle.amounts.specs.Walks.{ahead, Keeps, Takes, values}
use Rattle.amounts.specs.Pieces.{leading, overlap, Splits}
use Rattle.amounts.specs.Runs.{not_true, same_run, or_assoc, between_true, inside_bounds}
use Rattle.std.specs.Iterator.{YieldsFirst}
use Rattle.std.specs.Bool.{then_some}
use Rattle.amounts.specs.declared.peeked.Peeked.{Peeked}
use Rattle.amounts.specs.declared.combine.Either.{Either}
use Rattle.amounts.specs.declared.combine.Both.{Both}
use Rattle.amounts.proofs.Walks.{first_of, none_of, rising}

pub joined_swap : (A B : Values) → joined A B ≡ joined B A
joined_swap A B = fun_ext (λ v. or_comm (A v) (B v))
  where
    or_comm : (a b : Bool) → (a || b) ≡ (b || a)
    or_comm true true = refl
    or_comm true false = refl
    or_comm false true = refl
    or_comm false false = refl

-- ---- members of either

-- the run r is the first of one row, and the other's runs begin no lower
module _ (top also : ℕ) (r : Run) (rs others : List Run) (a : Ascending top 0 (r ∷ rs)) (b : Ascending also r.low others) where
  splits_first : Splits (joined (inside (r ∷ rs)) (inside others)) (Some r) (joined (inside rs) (inside others))
  splits_first = (
    fun_ext (λ v. sym (or_assoc (between r.low r.high v) (inside rs v) (inside others v))),
    λ v m. elim (or_cases (inside rs v) (inside others v) m) [
      | inl h ↦ omega (arith, (inside_bounds top (r.high + 2) rs a.3 v h).0, a.1)
      | inr h ↦ (inside_bounds also r.low others b v h).0
    ],
    a.1,
  )

-- a row goes first whose first run does not begin above the other's
module _ (top also : ℕ) (xs ys zs : List Run) (a : Ascending top 0 xs) (o : Option Run) (step : MatchOption o ((xs ≡ []) × (zs ≡ [])) (λ x. xs ≡ (x ∷ zs)))
    (late : (r : Run) → slice_get xs 0 ≡ Some r → Ascending also r.low ys) (alone : slice_get xs 0 ≡ None → ys ≡ []) where
  goes_first : Splits (joined (inside xs) (inside ys)) o (joined (inside zs) (inside ys))
  goes_first = at o step
    where
      at : (o : Option Run) → MatchOption o ((xs ≡ []) × (zs ≡ [])) (λ x. xs ≡ (x ∷ zs)) → Splits (joined (inside xs) (inside ys)) o (joined (inside zs) (inside ys))
      at None e = ap₂ (λ (us vs : List Run). joined (inside us) (inside vs)) e.0 (alone (ap (λ (us : List Run). slice_get us 0) e.0))
      at (Some r) e =
          subst (λ (us : List Run). Splits (joined (inside us) (inside ys)) (Some r) (joined (inside zs) (inside ys))) (sym e)
          (splits_first top also r zs ys (subst (Ascending top 0) e a) (late r (ap (λ (us : List Run). slice_get us 0) e)))

module _ (top also : ℕ) (xs ys : List Run) (a : Ascending top 0 xs) (b : Ascending also 0 ys) where
  mine_goes : leading (slice_get ys 0) (slice_get xs 0) ≡ false → (o : Option Run) (zs : List Run)
      → MatchOption o ((xs ≡ []) × (zs ≡ [])) (λ x. xs ≡ (x ∷ zs)) → Splits (joined (inside xs) (inside ys)) o (joined (inside zs) (inside ys))
  mine_goes l o zs step = goes_first top also xs ys zs a o step (λ r e. late ys b r (ap (leading (slice_get ys 0)) (sym e) ∙ l)) (λ e. alone ys (ap (leading (slice_get ys 0)) (sym e) ∙ l))
    where
      late : (ys : List Run) → Ascending also 0 ys → (r : Run) → leading (slice_get ys 0) (Some r) ≡ false → Ascending also r.low ys
      late [] b r l = tt
      late (y ∷ ys) b r l = (grind (arith, nat_tests), b.1, b.2, b.3)

      alone : (ys : List Run) → leading (slice_get ys 0) None ≡ false → ys ≡ []
      alone [] l = refl
      alone (y ∷ ys) l = absurd (both_ways true l refl)

  theirs_goes : leading (slice_get ys 0) (slice_get xs 0) ≡ true → (o : Option Run) (zs : List Run)
      → MatchOption o ((ys ≡ []) × (zs ≡ [])) (λ y. ys ≡ (y ∷ zs)) → Splits (joined (inside xs) (inside ys)) o (joined (inside xs) (inside zs))
  theirs_goes l o zs step =
      subst (λ (A : Values). Splits A o (joined (inside xs) (inside zs))) (joined_swap (inside ys) (inside xs))
      (subst (λ (B : Values). Splits (joined (inside ys) (inside xs)) o B) (joined_swap (inside zs) (inside xs))
      (goes_first also top ys xs zs b o step (λ r e. late xs a r (ap (λ (p : Option Run). leading p (slice_get xs 0)) (sym e) ∙ l))
      (λ e. absurd (both_ways _ (ap (λ (p : Option Run). leading p (slice_get xs 0)) e) l))))
    where
      late : (xs : List Run) → Ascending top 0 xs → (r : Run) → leading (Some r) (slice_get xs 0) ≡ true → Ascending top r.low xs
      late [] a r l = tt
      late (x ∷ xs) a r l = (grind (arith, nat_tests), a.1, a.2, a.3)

module _ (s : Either) (o : Option Run) (next : Peeked) where
  pub mine_first : leading (slice_get (ahead s.theirs.runs) 0) (slice_get (ahead s.mine.runs) 0) ≡ false → YieldsFirst (λ (p : Peeked). ahead p.runs) s.mine o next
      → Splits (either_left s) o (either_left (record { mine = next; theirs = s.theirs }))
  mine_first l step = mine_goes s.mine.runs.top s.theirs.runs.top (ahead s.mine.runs) (ahead s.theirs.runs) (rising s.mine.runs) (rising s.theirs.runs) l o (ahead next.runs) step

  pub theirs_first : leading (slice_get (ahead s.theirs.runs) 0) (slice_get (ahead s.mine.runs) 0) ≡ true → YieldsFirst (λ (p : Peeked). ahead p.runs) s.theirs o next
      → Splits (either_left s) o (either_left (record { mine = s.mine; theirs = next }))
  theirs_first l step = theirs_goes s.mine.runs.top s.theirs.runs.top (ahead s.mine.runs) (ahead s.theirs.runs) (rising s.mine.runs) (rising s.theirs.runs) l o (ahead next.runs) step

-- ---- common members

some_same : {a b : Run} → ◌≡◌ {A = Option Run} (Some a) (Some b) → a ≡ b
some_same e = cc

none_some : {a : Run} → ◌≡◌ {A = Option Run} None (Some a) → ⊥
none_some e = absurd cc

-- what two runs have in common, if they overlap
abbrev common : Run → Run → Run
common a b = record { low = max a.low b.low; high = min a.high b.high }

common_values : (a b : Run) → nat_le (common a b).low (common a b).high ≡ true → met (between a.low a.high) (between b.low b.high) ≡ between (common a b).low (common a b).high
common_values a b e = fun_ext (λ v. grind (arith, nat_tests))

no_common : (a b : Run) → nat_le (common a b).low (common a b).high ≡ false → (v : ℕ) → (between a.low a.high v && between b.low b.high v) ≡ false
no_common a b e v = grind (arith, nat_tests)

-- of two runs, the one that ends first has nothing in common with what follows the other
ends_first : (top : ℕ) (a b : Run) (bs : List Run) → Ascending top 0 (b ∷ bs) → a.high ≤ b.high → (v : ℕ) → (between a.low a.high v && inside bs v) ≡ false
ends_first top a b bs q h v =
    not_true _ (λ e.
    let both = and_parts (between a.low a.high v) (inside bs v) e in
    omega (arith, between_true a.low a.high v both.0, (inside_bounds top (b.high + 2) bs q.3 v both.1).0))

spread : (x y xs ys : Bool) → (x && ys) ≡ false → ((x || xs) && (y || ys)) ≡ ((x && y) || (xs && (y || ys)))
spread true true xs ys e = refl
spread true false true ys e = refl
spread true false false ys e = e
spread false y xs ys e = refl

-- the run of the one row ends first
module _ (top also : ℕ) (a b : Run) (us bs : List Run) (p : Ascending top 0 (a ∷ us)) (q : Ascending also 0 (b ∷ bs)) (h : a.high ≤ b.high) where
  split_off : met (inside (a ∷ us)) (inside (b ∷ bs)) ≡ joined (met (between a.low a.high) (between b.low b.high)) (met (inside us) (inside (b ∷ bs)))
  split_off = fun_ext (λ v. spread (between a.low a.high v) (between b.low b.high v) (inside us v) (inside bs v) (ends_first also a b bs q h v))

  after_common : (v : ℕ) → v ∈ met (inside us) (inside (b ∷ bs)) → min a.high b.high ≤ v
  after_common v m = omega (arith, (inside_bounds top (a.high + 2) us p.3 v (and_parts (inside us v) (inside (b ∷ bs) v) m).0).0)

module _ (top also : ℕ) (a b : Run) (xs ys us : List Run) (p : Ascending top 0 xs) (q : Ascending also 0 ys) (x : xs ≡ (a ∷ us)) (f : slice_get ys 0 ≡ Some b) (h : a.high ≤ b.high) where
  abbrev split : Type 0
  split = met (inside xs) (inside ys) ≡ joined (met (between a.low a.high) (between b.low b.high)) (met (inside us) (inside ys))

  abbrev above : Type 0
  above = (v : ℕ) → v ∈ met (inside us) (inside ys) → min a.high b.high ≤ v

  opened : split × above
  opened =
      let y = first_of ys b f in
      let p' = subst (Ascending top 0) x p in
      let q' = subst (Ascending also 0) y.1 q in (
        ap₂ (λ (us vs : List Run). met (inside us) (inside vs)) x y.1 ∙ split_off top also a b us y.0 p' q' h
            ∙ ap (λ (vs : List Run). joined (met (between a.low a.high) (between b.low b.high)) (met (inside us) (inside vs))) (sym y.1),
        λ v m. after_common top also a b us y.0 p' q' h v (sym (ap (λ (vs : List Run). met (inside us) (inside vs) v) y.1) ∙ m),
      )

  found : nat_le (common a b).low (common a b).high ≡ true → Splits (met (inside xs) (inside ys)) (Some (common a b)) (met (inside us) (inside ys))
  found e = (
    opened.0 ∙ ap (λ (A : Values). joined A (met (inside us) (inside ys))) (common_values a b e),
    λ v m. omega (arith, leb-true _ _ e, opened.1 v m),
    leb-true _ _ e,
  )

  skipped : nat_le (common a b).low (common a b).high ≡ false → met (inside xs) (inside ys) ≡ met (inside us) (inside ys)
  skipped e = opened.0 ∙ fun_ext (λ v. ap (λ (c : Bool). c || (inside us v && inside ys v)) (no_common a b e v))

met_swap : (A B : Values) → met A B ≡ met B A
met_swap A B = fun_ext (λ v. and_comm (A v) (B v))
  where
    and_comm : (a b : Bool) → (a && b) ≡ (b && a)
    and_comm true true = refl
    and_comm true false = refl
    and_comm false true = refl
    and_comm false false = refl

common_swap : (a b : Run) → common a b ≡ common b a
common_swap a b = same_run (common a b) (common b a) (omega arith) (omega arith)

-- one turn, from rows that begin with a and b: the row whose run ends first goes on
module _ (s t : Both) (a b : Run) (e : slice_get (ahead s.mine.runs) 0 ≡ Some a) (f : slice_get (ahead s.theirs.runs) 0 ≡ Some b)
    (mine : a.high ≤ b.high → Takes a s.mine.runs t.mine.runs × Keeps s.theirs.runs t.theirs.runs) (theirs : b.high < a.high → Takes b s.theirs.runs t.theirs.runs × Keeps s.mine.runs t.mine.runs) where
  abbrev overlaps : Bool
  overlaps = nat_le (common a b).low (common a b).high

  -- as the turn in which the other row goes on finds it
  swapped : (c : Bool) → overlaps ≡ c → nat_le (common b a).low (common b a).high ≡ c
  swapped c o = sym (ap (λ (r : Run). nat_le r.low r.high) (common_swap a b)) ∙ o

  found_here : overlaps ≡ true → Splits (both_left s) (Some (common a b)) (both_left t)
  found_here c =
      elim (cases_lt b.high a.high) [
        | inr h ↦
            let p = mine h in
            subst (λ (ws : List Run). Splits (both_left s) (Some (common a b)) (met (inside (ahead t.mine.runs)) (inside ws))) (sym p.1)
            (found s.mine.runs.top s.theirs.runs.top a b _ _ (ahead t.mine.runs) (rising s.mine.runs) (rising s.theirs.runs) p.0 f h c)
        | inl h ↦
            let p = theirs h in
            let other = found s.theirs.runs.top s.mine.runs.top b a _ _ (ahead t.theirs.runs) (rising s.theirs.runs) (rising s.mine.runs) p.0 e (omega arith) (swapped true c) in
            subst (λ (A : Values). Splits A (Some (common a b)) (both_left t)) (met_swap (inside (ahead s.theirs.runs)) (inside (ahead s.mine.runs)))
            (subst (λ (B : Values). Splits (met (inside (ahead s.theirs.runs)) (inside (ahead s.mine.runs))) (Some (common a b)) B)
            (met_swap (inside (ahead t.theirs.runs)) (inside (ahead s.mine.runs)) ∙ ap (λ (ws : List Run). met (inside ws) (inside (ahead t.theirs.runs))) (sym p.1))
            (subst (λ (r : Run). Splits (met (inside (ahead s.theirs.runs)) (inside (ahead s.mine.runs))) (Some r) (met (inside (ahead t.theirs.runs)) (inside (ahead s.mine.runs)))) (sym (common_swap a b)) other))
      ]

  skipped_here : overlaps ≡ false → both_left s ≡ both_left t
  skipped_here c =
      elim (cases_lt b.high a.high) [
        | inr h ↦
            let p = mine h in
            skipped s.mine.runs.top s.theirs.runs.top a b _ _ (ahead t.mine.runs) (rising s.mine.runs) (rising s.theirs.runs) p.0 f h c
            ∙ ap (λ (ws : List Run). met (inside (ahead t.mine.runs)) (inside ws)) (sym p.1)
        | inl h ↦
            let p = theirs h in
            met_swap (inside (ahead s.mine.runs)) (inside (ahead s.theirs.runs))
            ∙ skipped s.theirs.runs.top s.mine.runs.top b a _ _ (ahead t.theirs.runs) (rising s.theirs.runs) (rising s.mine.runs) p.0 e (omega arith) (swapped false c)
            ∙ met_swap (inside (ahead t.theirs.runs)) (inside (ahead s.mine.runs)) ∙ ap (λ (ws : List Run). met (inside ws) (inside (ahead t.theirs.runs))) (sym p.1)
      ]

  pub turn_found : (r : Run) → overlap a b ≡ Some r → Splits (both_left s) (Some r) (both_left t)
  turn_found r o = elim (cases_Bool overlaps) [
    | inl c ↦
        let same : common a b ≡ r = some_same (sym (ap (λ (d : Bool). then_some d (common a b)) c) ∙ o) in
        subst (λ (x : Run). Splits (both_left s) (Some x) (both_left t)) same (found_here c)
    | inr c ↦ absurd (none_some (sym (ap (λ (d : Bool). then_some d (common a b)) c) ∙ o))
  ]

  pub turn_skipped : overlap a b ≡ None → both_left s ≡ both_left t
  turn_skipped o = elim (cases_Bool overlaps) [
    | inl c ↦ absurd (none_some (sym o ∙ ap (λ (d : Bool). then_some d (common a b)) c))
    | inr c ↦ skipped_here c
  ]

  pub turn_less : count_left t.mine t.theirs < count_left s.mine s.theirs
  turn_less = elim (cases_lt b.high a.high) [
    | inr h ↦ let p = mine h in omega (arith, ap length p.0, ap length p.1)
    | inl h ↦ let p = theirs h in omega (arith, ap length p.0, ap length p.1)
  ]

-- where one of the rows is at its end, there is no common member
pub none_common : (xs ys : List Run) → (slice_get xs 0 ≡ None) ⊎ (slice_get ys 0 ≡ None) → met (inside xs) (inside ys) ≡ nothing
none_common xs ys (inl e) = ap (λ (ws : List Run). met (inside ws) (inside ys)) (none_of xs e)
none_common xs ys (inr f) = fun_ext (λ v. and_right (inside xs v) (inside ys v) (ap (λ (ws : List Run). inside ws v) (none_of ys f)))

-- ---- the rows made

module _ (top most : ℕ) (row other xs ys : List Run) (e : xs ≡ counted top 0 (places most row)) (f : ys ≡ counted top 0 (places most other)) (r : Result (List Run) SetRefusal) where
  pub met_made : ((top : ℕ) → ((v : ℕ) → v ∈ met (inside xs) (inside ys) → v < top) → Made top most (met (inside xs) (inside ys)) r) → Made top most (met (values top most row) (values top most other)) r
  met_made made =
      let same = ap₂ (λ (us vs : List Run). met (inside us) (inside vs)) e f in
      subst (λ (A : Values). Made top most A r) same
      (made top (λ v m. below top (places most row) v (and_parts (values top most row v) (values top most other v) (sym (ap (λ (A : Values). A v) same) ∙ m)).0))

  pub joined_made : ((top : ℕ) → ((v : ℕ) → v ∈ joined (inside xs) (inside ys) → v < top) → Made top most (joined (inside xs) (inside ys)) r) → Made top most (joined (values top most row) (values top most other)) r
  joined_made made =
      let same = ap₂ (λ (us vs : List Run). joined (inside us) (inside vs)) e f in
      subst (λ (A : Values). Made top most A r) same
      (made top (λ v m. elim (or_cases (values top most row v) (values top most other v) (sym (ap (λ (A : Values). A v) same) ∙ m)) [
        | inl h ↦ below top (places most row) v h
        | inr h ↦ below top (places most other) v h
      ]))
