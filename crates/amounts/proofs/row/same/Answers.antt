use Rattle.std.proofs.Common.{sym, ap, ◌∙◌}
use Rattle.amounts.specs.Rows.{inside}
use Rattle.amounts.specs.Walks.{ahead}
use Rattle.amounts.specs.Runs.{same_runs}
use Rattle.amounts.proofs.Same.{compared}
use Rattle.amounts.proofs.Walks.{ends_decide, rising}
use Rattle.amounts.proofs.row.same.Goals as goal

pub returns : goal.returns
returns c =
    let s = c.of.result in
    let t = c.of-2.result in
    let mine = ap inside c.of.ensures.ahead in
    let theirs = ap inside c.of-2.ensures.ahead in
    let same = compared ahead _ ends_decide s t c.eq.result c.eq.ensures.ran in
    record {
      decides = (
        λ h. sym mine ∙ ap inside (same.0 h) ∙ theirs,
        λ h. same.1 (same_runs s.top t.top 0 (ahead s) (ahead t) (rising s) (rising t) (mine ∙ h ∙ sym theirs)),
      );
    }
