-- Rows of runs as sets of the values below a top.
use Rattle.std.specs.Prelude.{◌≡◌, ℕ, zero, suc, ◌+◌, ◌<◌, ◌≤◌, Bool, true, false, if◌then◌else◌, not, ◌&&◌, List, [], ◌∷◌, length, take, nat_le, nat_lt}
use Rattle.sets.specs.declared.Run.{Run}
use Rattle.sets.specs.Sets.{Values, between, joined, nothing}

-- r is a run below the top that begins at `least` or above
abbrev pub stands : ℕ → ℕ → Run → Bool
stands top least r = nat_le least r.low && (nat_le r.low r.high && nat_lt r.high top)

-- the runs of a row that count: those before the first that is no run below the top, or that
-- leaves no gap above the one before it; the first of them begins at `least` or above
abbrev pub counted : ℕ → ℕ → List Run → List Run
counted top least [] = []
counted top least (r ∷ rs) = if stands top least r then r ∷ counted top (r.high + 2) rs else []

-- the values of some runs
abbrev pub inside : List Run → Values
inside [] = nothing
inside (r ∷ rs) = joined (between r.low r.high) (inside rs)

-- runs below the top from `least` on, each with a gap above the one before it
abbrev pub Ascending : ℕ → ℕ → List Run → Type 0
Ascending top least [] = Unit {0}
Ascending top least (r ∷ rs) = (least ≤ r.low) × (r.low ≤ r.high) × (r.high < top) × Ascending top (r.high + 2) rs

-- the members of a row
abbrev pub members : ℕ → List Run → Values
members top row = inside (counted top 0 row)

-- the places of a row: the first so many. A row of the code has just as many; the definition is kept
-- shut, since opened at a number it spells out that many cases.
unfoldable pub places : ℕ → List Run → List Run
places most row = take most row

-- the value before n is a member
unfoldable pub before : ℕ → Values → Bool
before zero A = false
before (suc n) A = A n

-- how many maximal runs of A begin below n: a run begins at each member whose predecessor is none.
-- Kept shut, since it must never compute at a bound of thousands of millions.
unfoldable pub starts : ℕ → Values → ℕ
starts zero A = 0
starts (suc n) A = starts n A + (if A n && not (before n A) then 1 else 0)

-- A has at most so many maximal runs below the top
abbrev pub few : ℕ → ℕ → Values → Bool
few top most A = nat_le (starts top A) most

-- k runs below the top from `least` on, each with a gap above the one before it; all places after them are blank
abbrev pub Filled : ℕ → ℕ → ℕ → List Run → Type 0
Filled top least zero [] = Unit {0}
Filled top least zero (r ∷ rs) = (r.low ≡ 1) × (r.high ≡ 0) × Filled top least zero rs
Filled top least (suc k) [] = ⊥
Filled top least (suc k) (r ∷ rs) = (stands top least r ≡ true) × Filled top (r.high + 2) k rs

-- the form of the rows that calls make
pub record Tidy (top most : ℕ) (row : List Run) : Type 0 where
  pub count : ℕ
  pub filled : Filled top 0 count row
  pub long : length row ≡ most
