-- Going through a set upward.
use Rattle.std.specs.Prelude.{◌≡◌, ℕ, ◌+◌, ◌<◌, ◌≤◌, false, Some, None, Option}
use Rattle.sets.specs.declared.Run.{Run}
use Rattle.sets.specs.Sets.{Values, ◌∈◌}

-- the least member of A from `from` up to 4,294,967,295, with none between; or there is none
abbrev pub Least : Values → ℕ → Option ℕ → Type 0
Least A from (Some m) = (from ≤ m) × (m ≤ 4294967295) × (m ∈ A) × ((v : ℕ) → from ≤ v → v < m → A v ≡ false)
Least A from None = (v : ℕ) → from ≤ v → v ≤ 4294967295 → A v ≡ false

-- the first members of A from `from` on that follow one another, up to the next value that is none; or there is none
abbrev pub FirstRun : Values → ℕ → Option Run → Type 0
FirstRun A from (Some r) =
    (from ≤ r.low) × (r.low ≤ r.high) × ((v : ℕ) → from ≤ v → v < r.low → A v ≡ false) × ((v : ℕ) → r.low ≤ v → v ≤ r.high → v ∈ A)
    × (A (r.high + 1) ≡ false)
FirstRun A from None = (v : ℕ) → from ≤ v → A v ≡ false
