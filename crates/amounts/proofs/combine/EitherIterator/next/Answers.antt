use Rattle.std.proofs.Common.{sym, ◌∙◌, ap₂}
use Rattle.amounts.specs.Pieces.{leading}
use Rattle.amounts.proofs.Combining.{mine_first, theirs_first}
use Rattle.amounts.proofs.combine.EitherIterator.next.Goals as goal

pub returns-then-leads-clause-steps : goal.returns-then-leads-clause-steps
returns-then-leads-clause-steps c =
    theirs_first c.args.self.now _ c.next.new.self (ap₂ leading (sym c.peek.ensures.first) (sym c.peek-2.ensures.first) ∙ sym c.leads.ensures.value ∙ c.if-leads.true) c.next.ensures.steps

pub returns-else-leads-clause-steps : goal.returns-else-leads-clause-steps
returns-else-leads-clause-steps c =
    mine_first c.args.self.now _ c.next-else-leads.new.self (ap₂ leading (sym c.peek.ensures.first) (sym c.peek-2.ensures.first) ∙ sym c.leads.ensures.value ∙ c.if-leads.false) c.next-else-leads.ensures.steps
