use Rattle.std.proofs.Common.{List, ap}
use Rattle.sets.specs.declared.Run.{Run}
use Rattle.amounts.specs.Limits.{amounts_top, most_runs}
use Rattle.amounts.proofs.Forms.{some_row, no_other_row}
use Rattle.amounts.proofs.each_held_set_has_one_row.Goals as goal

pub returns : goal.returns
returns c =
    record {
      theorem = λ A low held.
          let row = some_row amounts_top most_runs A low held in (
            (record { runs = row.0 }, row.1, row.2),
            λ s t tidy also is same. ap (λ (runs : List Run). record { runs = runs }) (no_other_row amounts_top most_runs A s.runs t.runs tidy also is same),
          );
    }
