use Rattle.std.proofs.Common.{◌≡◌, ◌≤◌}
use Rattle.amounts.specs.Pairs.{both_left, count_left}
use Rattle.amounts.proofs.combine.BothIterator.next.Given as goal

abbrev pub invariant-loop-a : goal.invariant-loop-a
invariant-loop-a l =
    (both_left l.initial.self ≡ both_left l.self) × (count_left l.self.mine l.self.theirs ≤ count_left l.initial.self.mine l.initial.self.theirs)

abbrev pub decreases-loop-a : goal.decreases-loop-a
decreases-loop-a l = count_left l.self.mine l.self.theirs
