use Rattle.std.proofs.Common.{Some, sym, ◌∙◌, subst, inl, inr, arith}
use Rattle.sets.specs.Sets.{Values}
use Rattle.amounts.specs.Pairs.{both_left}
use Rattle.amounts.specs.Pieces.{Splits}
use Rattle.amounts.specs.Walks.{ahead}
use Rattle.amounts.proofs.Combining.{turn_found, turn_skipped, turn_less, none_common}
use Rattle.amounts.proofs.combine.BothIterator.next.Goals as goal

pub returns-in-Some-clause-steps : goal.returns-in-Some-clause-steps
returns-in-Some-clause-steps c =
    let s = c.loop-a.self in
    let t = c.pass.new.self in
    subst (λ (A : Values). Splits A (Some c.in-Some.run') (both_left t)) (sym c.loop-a.invariant.0)
    (turn_found s t _ _ (sym c.peek.ensures.first ∙ c.in-Some-Some.is-0) (sym c.peek-in-loop-a.ensures.first ∙ c.in-Some-Some.is-1) c.pass.ensures.mine c.pass.ensures.theirs c.in-Some.run' (sym c.common.ensures.value ∙ c.in-Some.is))

pub loop-a-preserved : goal.loop-a-preserved
loop-a-preserved c =
    let s = c.loop-a.self in
    let t = c.pass.new.self in
    let e = sym c.peek.ensures.first ∙ c.in-Some-Some.is-0 in
    let f = sym c.peek-in-loop-a.ensures.first ∙ c.in-Some-Some.is-1 in (
      c.loop-a.invariant.0 ∙ turn_skipped s t _ _ e f c.pass.ensures.mine c.pass.ensures.theirs (sym c.common.ensures.value ∙ c.in_default-common.is),
      omega (arith, c.loop-a.invariant.1, turn_less s t _ _ e f c.pass.ensures.mine c.pass.ensures.theirs),
    )

pub returns-in_default-clause-steps : goal.returns-in_default-clause-steps
returns-in_default-clause-steps c =
    c.loop-a.invariant.0 ∙ none_common (ahead c.loop-a.self.mine.runs) (ahead c.loop-a.self.theirs.runs) (inr (sym c.peek-in-loop-a.ensures.first ∙ c.in_default.is-1))

pub returns-in_default-2-clause-steps : goal.returns-in_default-2-clause-steps
returns-in_default-2-clause-steps c =
    c.loop-a.invariant.0 ∙ none_common (ahead c.loop-a.self.mine.runs) (ahead c.loop-a.self.theirs.runs) (inl (sym c.peek.ensures.first ∙ c.in_default.is-0))
