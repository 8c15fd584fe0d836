use Rattle.std.proofs.Common.{rules}
use Rattle.book.proofs.Rows.{decides_inside}
use Rattle.book.proofs.record.Record.is_inside.Goals as goal

pub returns : goal.returns
returns g c =
    record {
      decides =
          decides_inside g.K.ValueSet.has c.args.self.now.book.now c.args.self.now.values.now c.outside_mask.result (search rules) c.outside_mask.ensures.value;
    }
