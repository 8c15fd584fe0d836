use Rattle.book.specs.Answers.{Flagged}
use Rattle.book.specs.Books.{FailsEdit}
use Rattle.book.specs.Measure.{most_edits}
use Rattle.book.proofs.record.Record.failed_flags.Given as goal

abbrev pub invariant-loop-place : goal.invariant-loop-place
invariant-loop-place g l = Flagged most_edits l.place (FailsEdit g.K.ValueSet.has l.self.book.now l.self.values.now) l.flags
