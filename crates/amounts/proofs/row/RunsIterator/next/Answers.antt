use Rattle.std.proofs.Common.{rules}
use Rattle.amounts.specs.Walks.{ahead}
use Rattle.amounts.proofs.Walks.{comes_next, progress}
use Rattle.amounts.proofs.row.RunsIterator.next.Goals as goal

pub returns-clause-steps : goal.returns-clause-steps
returns-clause-steps c =
    comes_next c.args.self.now.top c.args.self.now.least c.in_ok-run.run'.now c.in_ok-run.others.now c.args.self.now.places.now c.past_gap-self.result
    (search rules) (search rules) (search rules) c.past_gap-self.ensures.value

pub returns-clause-goes : goal.returns-clause-goes
returns-clause-goes c = progress ahead _ _ _ (returns-clause-steps c) tt
