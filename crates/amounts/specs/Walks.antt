-- Going through the runs of a row.
use Rattle.std.specs.Prelude.{◌≡◌, ℕ, ◌+◌, ◌<◌, ◌≤◌, Bool, false, ◌&&◌, List, ◌∷◌, Some, None, Option, nat_le}
use Rattle.sets.specs.declared.Run.{Run}
use Rattle.sets.specs.Sets.{Values, between}
use Rattle.amounts.specs.declared.row.Runs.{Runs}
use Rattle.amounts.specs.Rows.{counted, members, places}

-- what a row of so many places means, whatever they hold
abbrev pub values : ℕ → ℕ → List Run → Values
values top most row = members top (places most row)

-- the runs that are still to come
abbrev pub ahead : Runs → List Run
ahead s = counted s.top s.least s.places.now

-- between s and t the run r was taken
abbrev pub Takes : Run → Runs → Runs → Type 0
Takes r s t = ahead s ≡ (r ∷ ahead t)

-- between s and t nothing was taken
abbrev pub Keeps : Runs → Runs → Type 0
Keeps s t = ahead t ≡ ahead s

-- the run r ends at `from` or above, and tells which values are members from there up to one past its end;
-- or there is no member from `from` on
abbrev pub Sought : Values → ℕ → ℕ → Option Run → Type 0
Sought A top from (Some r) =
    (r.low ≤ r.high) × (from ≤ r.high) × (r.high < top) × ((v : ℕ) → from ≤ v → v ≤ r.high + 1 → A v ≡ between r.low r.high v)
Sought A top from None = (v : ℕ) → from ≤ v → A v ≡ false

-- the run lies wholly within the other
abbrev pub covering : Run → Run → Bool
covering cover r = nat_le cover.low r.low && nat_le r.high cover.high
