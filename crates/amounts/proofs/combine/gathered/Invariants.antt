use Rattle.std.proofs.Common.{ℕ, ◌<◌, ◌≤◌}
use Rattle.sets.specs.Sets.{◌∈◌}
use Rattle.amounts.specs.Limits.{most_runs}
use Rattle.amounts.proofs.Drafts.{Drafts}
use Rattle.amounts.proofs.combine.gathered.Given as goal

abbrev pub invariant-loop-run : goal.invariant-loop-run
invariant-loop-run g l =
    (l.draft.count ≤ most_runs)
    × ((top : ℕ) → ((v : ℕ) → v ∈ g.P.Pieces.left l.fn.pieces → v < top) → Drafts top most_runs (g.P.Pieces.left l.fn.pieces) l.draft (g.P.Pieces.left l.run-iterator))
