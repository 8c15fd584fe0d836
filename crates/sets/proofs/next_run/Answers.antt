use Rattle.std.proofs.Common.{rules}
use Rattle.sets.proofs.Steps.{some_other}
use Rattle.sets.proofs.next_run.Goals as goal

pub returns-in_err-after : goal.returns-in_err-after
returns-in_err-after g c =
    let met = g.met.K.ValueSet in
    record {
      first =
          absurd (some_other (g.K.ValueSet.has c.args.set.now) g.K.ValueSet.top c.in_ok-low.low met.top_fits (met.below_top c.args.set.now) (search rules) c.in_err-after.ensures.least);
    }
