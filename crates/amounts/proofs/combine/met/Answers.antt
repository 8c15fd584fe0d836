use Rattle.amounts.specs.Limits.{most_runs}
use Rattle.amounts.proofs.Combining.{met_made}
use Rattle.amounts.proofs.combine.met.Goals as goal

pub returns : goal.returns
returns c = record { made = met_made c.args.top most_runs c.args.row.now c.args.other.now _ _ c.of.ensures.ahead c.of-2.ensures.ahead _ c.gathered.ensures.made }
