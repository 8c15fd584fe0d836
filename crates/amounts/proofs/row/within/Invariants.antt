use Rattle.std.proofs.Common.{◌+◌, ◌↔◌, length}
use Rattle.sets.specs.Sets.{Within}
use Rattle.amounts.specs.Limits.{most_runs}
use Rattle.amounts.specs.Rows.{inside}
use Rattle.amounts.specs.Walks.{ahead, values}
use Rattle.amounts.proofs.row.within.Given as goal

abbrev pub invariant-loop-run : goal.invariant-loop-run
invariant-loop-run l =
    Within (values l.top most_runs l.row) (values l.top most_runs l.other) ↔ Within (inside (ahead l.mine.runs)) (inside (ahead l.theirs.runs))

abbrev pub decreases-loop-run : goal.decreases-loop-run
decreases-loop-run l = length (ahead l.mine.runs) + length (ahead l.theirs.runs)
