-- A word as a set of the values below 64.
use Rattle.std.specs.Prelude.{◌≡◌, ℕ, ◌^◌, ◌<◌, ◌&&◌, ◌==◌, nat_lt}
use Rattle.std.specs.Int.{bit_at}
use Rattle.sets.specs.Sets.{Values, ◌∈◌}

-- v is below 64, and its bit is set
abbrev pub bit : ℕ → Values
bit n v = nat_lt v 64 && bit_at n v == 1

-- Every set of values below 64 is that of just one word.
abbrev pub OneWordEach : Type 0
OneWordEach =
    (A : Values) → ((v : ℕ) → v ∈ A → v < 64)
    → ((w : ℕ) × (w < 2 ^ 64) × (bit w ≡ A)) × ((w u : ℕ) → w < 2 ^ 64 → u < 2 ^ 64 → bit w ≡ A → bit u ≡ A → w ≡ u)
