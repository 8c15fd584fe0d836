use Rattle.std.proofs.Common.{◌≡◌, ◌↔◌, IsTrue, ap, subst}
use Rattle.sets.specs.Sets.{Values, nothing}
use Rattle.amounts.specs.Rows.{inside}
use Rattle.amounts.specs.Walks.{ahead}
use Rattle.amounts.proofs.Walks.{empty_runs, rising}
use Rattle.amounts.proofs.row.is_empty.Goals as goal

pub returns : goal.returns
returns c =
    let s = c.of.result in
    record {
      decides =
          subst (λ (A : Values). IsTrue c.is_none.result ↔ (A ≡ nothing)) (ap inside c.of.ensures.ahead)
          (empty_runs s.top 0 (ahead s) (rising s) c.peek.result c.peek.ensures.first c.is_none.result c.is_none.ensures);
    }
