-- The limits of amounts.
use Rattle.std.specs.Prelude.{ℕ}

-- every amount lies below
abbrev pub amounts_top : ℕ
amounts_top = 2000000000

-- how many runs a set of amounts has at most, and how many places a row has
abbrev pub most_runs : ℕ
most_runs = 8
