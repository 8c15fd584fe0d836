-- Tables and slices, read as edits and records.
use Rattle.std.proofs.Common.{◌≡◌, ℕ, zero, suc, ◌+◌, ◌*◌, ◌<◌, ◌≤◌, ltb, List, [], ◌∷◌, length, get_or, sym, ap, ◌∙◌, inl, inr, arith}
use mathlib.Core.List.Memᴰ
use native.Mathlib.Decide.{ℕ_discrete}
use Rattle.std.proofs.lemmas.Bool.{cond-true, lt-ltb}
use Rattle.sets.specs.Sets.{Values, nothing}
use Rattle.editing.specs.Edits.{Edit, ◌among◌}
use Rattle.editing.specs.Tables.{tests, at, row, rows}

-- the test at a place is that of the set which was read there
pub test_at : {K : Type 0} (has : K → Values) (sets : List K) (q : ℕ) (s : K) → q < length sets → s ≡ get_or sets q s → at (tests has sets) q ≡ has s
test_at has [] q s h e = absurd (omega arith)
test_at has (t ∷ sets) zero s h e = ap has (sym e)
test_at has (t ∷ sets) (suc q) s h e = test_at has sets q s (omega arith) e

-- within its fields a row has the sets of the table
pub row_at : (n : ℕ) (table : List Values) (j i : ℕ) → i < n → row n table j i ≡ at table (j * n + i)
row_at n table j i h = cond-true (ltb i n) (at table (j * n + i)) nothing (lt-ltb i n h)

-- so a row's set is the one which was read there
pub read_row :
    {K : Type 0} (has : K → Values) (sets : List K) (n j i : ℕ) (s : K) → i < n → j * n + i < length sets
    → s ≡ get_or sets (j * n + i) s → row n (tests has sets) j i ≡ has s
read_row has sets n j i s h k e = row_at n (tests has sets) j i h ∙ test_at has sets (j * n + i) s k e

module _ (edit : ℕ → Edit) where
  -- each row that is read stands in the list
  pub row_among : (j c i : ℕ) → j ≤ i → i < j + c → edit i among rows edit j c
  row_among j zero i le h = absurd (omega arith)
  row_among j (suc c) i le h = at_row (row_among (suc j) c i) (ℕ_discrete i j)
    where
      at_row : (suc j ≤ i → i < suc j + c → edit i among rows edit (suc j) c) → Dec (i ≡ j) → edit i among (edit j ∷ rows edit (suc j) c)
      at_row later (yes p) = Memᴰ.head (ap edit p)
      at_row later (no q) = Memᴰ.tail (later (omega arith) (omega arith))

  -- and each edit of the list is such a row
  pub among_row : (j c : ℕ) (e : Edit) → e among rows edit j c → (i : ℕ) × (j ≤ i) × (i < j + c) × (e ≡ edit i)
  among_row j zero e m = absurd (Memᴰ.not-nil m)
  among_row j (suc c) e m = at_row (among_row (suc j) c e)
    where
      at_row : (e among rows edit (suc j) c → (i : ℕ) × (suc j ≤ i) × (i < suc j + c) × (e ≡ edit i)) → (i : ℕ) × (j ≤ i) × (i < j + suc c) × (e ≡ edit i)
      at_row later =
          elim (Memᴰ.cases_cons m) [
            | inl p ↦ (j, omega arith, omega arith, p)
            | inr l ↦ let t = later l in (t.0, omega (arith, t.1), omega (arith, t.2), t.3)
          ]
