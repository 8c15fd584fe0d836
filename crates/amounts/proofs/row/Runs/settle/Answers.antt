use Rattle.amounts.specs.Walks.{ahead}
use Rattle.amounts.proofs.Walks.{first_seen, none_seen}
use Rattle.amounts.proofs.row.Runs.settle.Goals as goal

pub returns-then-is_none-clause-same : goal.returns-then-is_none-clause-same
returns-then-is_none-clause-same c = none_seen (ahead c.args.self.now) c.peek.result c.peek.ensures.first c.is_none.result c.is_none.ensures c.if-is_none.true

pub returns-else-is_none-clause-settled : goal.returns-else-is_none-clause-settled
returns-else-is_none-clause-settled c =
    let self = c.args.self.now in
    first_seen self.top self.least self.places.now c.peek.result c.peek.ensures.first c.is_none.result c.is_none.ensures c.if-is_none.false
