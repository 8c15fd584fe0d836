use Rattle.std.proofs.Common.{◌≡◌, ℕ, find, nat_le, refl, ap, subst, sym, ◌∙◌, rules}
use borrow.Author.Tests.{tests}
use Rattle.std.proofs.lemmas.Iterator.Adapters.{option_map_id}
use Rattle.std.proofs.lemmas.Iterator.Consumers.{YieldsList-from_first}
use Rattle.std.proofs.lemmas.Iterator.Search.{find_from_yields_List}
use Rattle.sets.specs.Sets.{Values}
use Rattle.amounts.specs.Rows.{inside}
use Rattle.amounts.specs.Walks.{ahead, Sought}
use Rattle.amounts.proofs.Walks.{sought, rising}
use Rattle.amounts.proofs.row.seek.Goals as goal

pub returns : goal.returns
returns c =
    let s = c.of.result in
    let from = c.args.from in
    let found : c.find.result ≡ find (λ r. nat_le from r.high) (ahead s) =
    sym (option_map_id c.find.result)
    ∙ find_from_yields_List (λ r. nat_le from r.high) c.find.new.self _ c.find.result c.find.ensures.ran (YieldsList-from_first (λ x. x) ahead (ahead s) refl) (λ x b q k. search (rules, tests)) in
    let told = subst (Sought (inside (ahead s)) s.top from) (sym found) (sought s.top 0 from (ahead s) (rising s)) in
    record {
      sought = subst (λ (A : Values). Sought A c.args.top from c.find.result) (ap inside c.of.ensures.ahead) (subst (λ (t : ℕ). Sought (inside (ahead s)) t from c.find.result) c.of.ensures.top told);
    }
