-- Which sets are held.
use Rattle.std.specs.Prelude.{◌≡◌, ℕ, suc, ◌+◌, ◌<◌, ◌≤◌, true, List, [], ◌∷◌, length}
use Rattle.std.proofs.Common.{inl, inr, arith}
use Rattle.std.proofs.lemmas.Bool.{cases_Bool, le-leb}
use Rattle.sets.specs.declared.Run.{Run}
use Rattle.sets.specs.Sets.{◌∈◌, nothing, between}
use Rattle.amounts.specs.Rows.{stands, counted, members, places, starts, few}
use Rattle.amounts.specs.RowsLemmas.{counted_on, counted_off, ascends, places_few}
use Rattle.amounts.specs.Runs.{inside_bounds}
use Rattle.amounts.specs.Counting.{starts_nothing, starts_inside, run_is_one}

pub below : (top : ℕ) (row : List Run) (v : ℕ) → v ∈ members top row → v < top
below top row v e = (inside_bounds top 0 (counted top 0 row) (ascends top 0 row) v e).1

-- no more runs count than there are
counted_few : (top least : ℕ) (row : List Run) → length (counted top least row) ≤ length row
counted_few top least [] = omega arith
counted_few top least (r ∷ rs) =
    elim (cases_Bool (stands top least r)) [
      | inl e ↦ rw (counted_on top least r rs e) (omega (arith, counted_few top (r.high + 2) rs))
      | inr e ↦ rw (counted_off top least r rs e) (omega arith)
    ]

pub own_sets_held : (top most : ℕ) (row : List Run) → few top most (members top (places most row)) ≡ true
own_sets_held top most row =
    le-leb (starts top (members top (places most row))) most
    (omega (arith, starts_inside top 0 (counted top 0 (places most row)) (ascends top 0 (places most row)) top (omega arith), counted_few top 0 (places most row), places_few most row))

pub nothing_held : (top most : ℕ) → few top most nothing ≡ true
nothing_held top most = le-leb (starts top nothing) most (omega (arith, starts_nothing top))

pub run_held : (top most low high : ℕ) → low ≤ high → high < top → few top (suc most) (between low high) ≡ true
run_held top most low high p q = le-leb (starts top (between low high)) (suc most) (omega (arith, run_is_one top low high p (omega arith)))
