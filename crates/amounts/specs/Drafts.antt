-- A row in the making.
use Rattle.std.specs.Prelude.{◌≡◌, ℕ, ◌+◌, ◌-◌, max, Bool, true, false, if◌then◌else◌, ◌&&◌, List, replicate, Ok, Err, Result, ◌==◌, nat_le, nat_lt, slice_index_or, slice_set}
use Rattle.sets.specs.declared.Run.{Run}
use Rattle.sets.specs.declared.SetRefusal.{SetRefusal}
use Rattle.sets.specs.declared.SetRefusal.TheVariants.{NotHeld}
use Rattle.sets.specs.Sets.{Values}
use Rattle.amounts.specs.declared.draft.Draft.{Draft}
use Rattle.amounts.specs.Rows.{members, places, few, Tidy}

-- no runs, in a row of so many places
abbrev pub no_runs : ℕ → Draft
no_runs most = record { runs = replicate most (record { low = 1; high = 0 }); count = 0 }

-- the last run of a draft that has one
abbrev pub last : Draft → Run
last d = slice_index_or d.runs (d.count - 1) (record { low = 0; high = 0 })

-- there is a last run, and r, which does not begin below it, overlaps or touches it
abbrev pub touches : Draft → Run → Bool
touches d r = nat_lt 0 d.count && nat_le r.low ((last d).high + 1)

abbrev pub widened : Draft → Run → Draft
widened d r = record { runs = slice_set d.runs (d.count - 1) (record { low = (last d).low; high = max (last d).high r.high }); count = d.count }

abbrev pub pushed : Draft → Run → Draft
pushed d r = record { runs = slice_set d.runs d.count r; count = d.count + 1 }

-- the draft after a run is added, if it may have so many runs
abbrev pub added : ℕ → Draft → Run → Draft
added most d r = if touches d r then widened d r else (if d.count == most then d else pushed d r)

abbrev pub answered : ℕ → Draft → Run → Result (Unit {0}) SetRefusal
answered most d r = if touches d r then Ok tt else (if d.count == most then Err NotHeld else Ok tt)

-- a tidy row with the members of A, or A has too many runs
abbrev pub Made : ℕ → ℕ → Values → Result (List Run) SetRefusal → Type 0
Made top most A (Ok row) = (few top most A ≡ true) × (members top (places most row) ≡ A) × Tidy top most row
Made top most A (Err e) = (e ≡ NotHeld) × (few top most A ≡ false)
