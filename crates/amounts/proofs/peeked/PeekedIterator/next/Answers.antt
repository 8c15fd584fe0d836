use Rattle.std.proofs.Common.{Option, sym, ◌∙◌, subst}
use Rattle.std.specs.Iterator.{YieldsFirst}
use Rattle.sets.specs.declared.Run.{Run}
use Rattle.amounts.specs.declared.peeked.Peeked.{Peeked}
use Rattle.amounts.specs.Walks.{ahead}
use Rattle.amounts.proofs.Walks.{none_of}
use Rattle.amounts.proofs.peeked.PeekedIterator.next.Goals as goal

pub returns-in_err-run-clause-steps : goal.returns-in_err-run-clause-steps
returns-in_err-run-clause-steps c =
    let self = c.args.self.now in
    let none = none_of (ahead self.runs) (sym c.peek.ensures.first ∙ c.in_err-run.was) in
    subst (λ (o : Option Run). YieldsFirst (λ (p : Peeked). ahead p.runs) self o self) (sym c.from_residual.ensures) (none, none)
