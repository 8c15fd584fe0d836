-- Runs that come by ascending start, and may overlap or touch.
use Rattle.std.specs.Prelude.{◌≡◌, ℕ, ◌≤◌, min, max, Bool, true, false, Some, None, Option, nat_le, nat_lt}
use Rattle.std.specs.Bool.{then_some}
use Rattle.sets.specs.declared.Run.{Run}
use Rattle.sets.specs.Sets.{Values, ◌∈◌, between, joined, nothing}

-- the run r and then B make the set A, and nothing of B lies below r; or A is empty
abbrev pub Splits : Values → Option Run → Values → Type 0
Splits A (Some r) B = (A ≡ joined (between r.low r.high) B) × ((v : ℕ) → v ∈ B → r.low ≤ v) × (r.low ≤ r.high)
Splits A None B = A ≡ nothing

-- the first of two runs begins below the other, or is the only one
abbrev pub leading : Option Run → Option Run → Bool
leading (Some r) (Some other) = nat_lt r.low other.low
leading (Some r) None = true
leading None other = false

-- what two runs have in common, if they overlap
abbrev pub overlap : Run → Run → Option Run
overlap a b = then_some (nat_le (max a.low b.low) (min a.high b.high)) (record { low = max a.low b.low; high = min a.high b.high })
