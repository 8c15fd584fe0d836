use Rattle.editing.proofs.Containing.{contained_adds_nothing}
use Rattle.editing.proofs.contained_adds_nothing.Goals as goal

pub returns : goal.returns
returns c = record { theorem = contained_adds_nothing }
