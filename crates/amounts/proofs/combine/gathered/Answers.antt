use Rattle.std.proofs.Common.{Some, None, sym, ◌∙◌}
use Rattle.std.proofs.lemmas.Result.{err_from_is_err_and}
use Rattle.amounts.specs.Limits.{most_runs}
use Rattle.amounts.proofs.Adding.{piece_added, piece_refused, all_added, count_added}
use Rattle.amounts.proofs.combine.gathered.Goals as goal

pub loop-run-preserved : goal.loop-run-preserved
loop-run-preserved g c =
    let at = c.loop-run in
    let piece = g.met.P.Pieces.splits at.run-iterator (Some c.in-Some.run') c.next.new.self c.in-Some.ensures.steps in (
      count_added most_runs at.draft c.add.new.self c.in-Some.run' c.add.ensures.draft at.invariant.0,
      λ top bound. piece_added top most_runs (g.P.Pieces.left c.args.pieces) bound at.draft _ (at.invariant.1 top bound) c.in-Some.run' _ piece c.add.new.self c.add.ensures.draft
          (sym c.add.ensures.answer ∙ c.in_ok-add.was),
    )

pub returns-in_err-add : goal.returns-in_err-add
returns-in_err-add g c =
    let at = c.loop-run in
    let piece = g.met.P.Pieces.splits at.run-iterator (Some c.in-Some.run') c.next.new.self c.in-Some.ensures.steps in
    let p = err_from_is_err_and c.from_residual.result c.from_residual.ensures.1 in
    record {
      made = λ top bound.
          rw (p.1, p.2)
          (piece_refused top most_runs (g.P.Pieces.left c.args.pieces) bound at.draft _ (at.invariant.1 top bound) c.in-Some.run' _ piece c.in_err-add.field-0.0
          (sym c.add.ensures.answer ∙ c.in_err-add.was));
    }

pub returns : goal.returns
returns g c =
    let at = c.loop-run in
    let none = g.met.P.Pieces.splits at.run-iterator None c.next.new.self c.in-None.ensures.steps in
    record { made = λ top bound. all_added top most_runs (g.P.Pieces.left c.args.pieces) bound at.draft _ (at.invariant.1 top bound) none }
