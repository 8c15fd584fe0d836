-- What two rows that are walked together have left to give.
use Rattle.std.specs.Prelude.{ℕ, ◌+◌, length}
use Rattle.sets.specs.Sets.{Values, met, joined}
use Rattle.amounts.specs.declared.peeked.Peeked.{Peeked}
use Rattle.amounts.specs.declared.combine.Both.{Both}
use Rattle.amounts.specs.declared.combine.Either.{Either}
use Rattle.amounts.specs.Rows.{inside}
use Rattle.amounts.specs.Walks.{ahead}

-- the members of either that are still to come
abbrev pub either_left : Either → Values
either_left s = joined (inside (ahead s.mine.runs)) (inside (ahead s.theirs.runs))

-- the common members that are still to come
abbrev pub both_left : Both → Values
both_left s = met (inside (ahead s.mine.runs)) (inside (ahead s.theirs.runs))

-- how many runs are still to come
abbrev pub count_left : Peeked → Peeked → ℕ
count_left mine theirs = length (ahead mine.runs) + length (ahead theirs.runs)
