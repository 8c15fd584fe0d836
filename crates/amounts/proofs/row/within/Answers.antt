use Rattle.std.proofs.Common.{sym, refl, ◌∙◌, rules}
use Rattle.std.proofs.lemmas.Bool.{false≢true}
use Rattle.amounts.specs.Walks.{ahead}
use Rattle.amounts.proofs.Walks.{none_covers, none_left, cannot_cover, pass_mine, pass_theirs}
use Rattle.amounts.proofs.row.within.Goals as goal

pub returns-in_default-peek : goal.returns-in_default-peek
returns-in_default-peek c =
    let at = c.loop-run in
    let alone = none_covers at.mine.runs at.theirs.runs _ (sym c.peek.ensures.first ∙ c.in-Some.is) (sym c.peek-in-Some.ensures.first ∙ c.in_default-peek.is) in
    record { decides = (λ f. absurd (false≢true f), λ w. absurd (alone (at.invariant.0 w))) }

pub loop-run-preserved-then-covers : goal.loop-run-preserved-then-covers
loop-run-preserved-then-covers c =
    let at = c.loop-run in
    let turn =
    pass_mine at.mine.runs at.theirs.runs _ (sym c.peek.ensures.first ∙ c.in-Some.is) _ (sym c.peek-in-Some.ensures.first ∙ c.in-Some-peek.is) _ c.next.new.self.runs (sym c.covers.ensures.value ∙ c.if-covers.true) c.next.ensures.steps in
    (λ w. turn.0 (at.invariant.0 w), λ w. at.invariant.1 (turn.1 w))

pub loop-run-preserved : goal.loop-run-preserved
loop-run-preserved c =
    let at = c.loop-run in
    let turn =
    pass_theirs at.mine.runs at.theirs.runs _ (sym c.peek.ensures.first ∙ c.in-Some.is) _ (sym c.peek-in-Some.ensures.first ∙ c.in-Some-peek.is) _ c.next-then-cover-run.new.self.runs c.if-cover-run.true c.next-then-cover-run.ensures.steps in
    (λ w. turn.0 (at.invariant.0 w), λ w. at.invariant.1 (turn.1 w))

pub returns-else-cover-run : goal.returns-else-cover-run
returns-else-cover-run c =
    let at = c.loop-run in
    let out =
    cannot_cover at.mine.runs at.theirs.runs _ (sym c.peek.ensures.first ∙ c.in-Some.is) _ (sym c.peek-in-Some.ensures.first ∙ c.in-Some-peek.is) (sym c.covers.ensures.value ∙ c.if-covers.false) (search rules) in
    record { decides = (λ f. absurd (false≢true f), λ w. absurd (out (at.invariant.0 w))) }

pub returns : goal.returns
returns c =
    record {
      decides = (
        λ _. c.loop-run.invariant.1 (none_left (ahead c.loop-run.mine.runs) _ (sym c.peek.ensures.first ∙ c.in_default.is)),
        λ _. refl,
      );
    }
