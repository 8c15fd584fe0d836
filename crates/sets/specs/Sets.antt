-- Sets of values, as membership tests. Two sets with the same members are equal.
use Rattle.std.specs.Prelude.{◌≡◌, ℕ, Bool, true, false, not, ◌&&◌, ◌||◌, ◌==◌, nat_le}

infix 6 ◌∈◌
-- a set of values: which numbers are members
abbrev pub Values : Type 0
Values = ℕ → Bool

abbrev pub ◌∈◌ : ℕ → Values → Type 0
v ∈ A = A v ≡ true

-- the empty set
abbrev pub nothing : Values
nothing v = false

-- the run from low to high, both among its members
abbrev pub between : ℕ → ℕ → Values
between low high v = nat_le low v && nat_le v high

-- the set of one value
abbrev pub single : ℕ → Values
single w v = v == w

-- the common members
abbrev pub met : Values → Values → Values
met A B v = A v && B v

-- the members of either
abbrev pub joined : Values → Values → Values
joined A B v = A v || B v

-- the values that are no members
abbrev pub others : Values → Values
others A v = not (A v)

-- each member of A is one of B
abbrev pub Within : Values → Values → Type 0
Within A B = (v : ℕ) → v ∈ A → v ∈ B
