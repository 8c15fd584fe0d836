-- Amounts: rows of eight runs below 2,000,000,000.
use Rattle.std.specs.Prelude.{◌≡◌, ℕ, ◌<◌, Bool, true}
use Rattle.sets.specs.Sets.{Values, ◌∈◌}
use Rattle.amounts.specs.declared.Amounts.{Amounts}
use Rattle.amounts.specs.Limits.{amounts_top, most_runs}
use Rattle.amounts.specs.Rows.{members, places, few, Tidy}

-- the members of a row of amounts, whatever it holds
abbrev pub members_of : Amounts → Values
members_of s = members amounts_top (places most_runs s.runs)

-- the hold rule, for sets of values below the top: at most eight maximal runs
abbrev pub held : Values → Bool
held A = few amounts_top most_runs A

-- the form of every row that a call makes: runs that ascend with gaps, then blanks
abbrev pub IsTidy : Amounts → Type 0
IsTidy s = Tidy amounts_top most_runs s.runs

-- Every set of values below the top that has at most eight maximal runs is that of just one tidy row.
abbrev pub OneTidyRowEach : Type 0
OneTidyRowEach =
    (A : Values) → ((v : ℕ) → v ∈ A → v < amounts_top) → held A ≡ true
    → ((s : Amounts) × IsTidy s × (members_of s ≡ A)) × ((s t : Amounts) → IsTidy s → IsTidy t → members_of s ≡ A → members_of t ≡ A → s ≡ t)
