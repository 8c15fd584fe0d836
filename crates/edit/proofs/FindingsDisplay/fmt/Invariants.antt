-- The separator is text throughout.
use denote.Text.{Utf8}
use denote.Shadow.{shadow}
use Rattle.edit.proofs.FindingsDisplay.fmt.Given as goal

abbrev pub invariant-loop-i : goal.invariant-loop-i
invariant-loop-i g l = shadow (Utf8 l.separator)

abbrev pub invariant-loop-number : goal.invariant-loop-number
invariant-loop-number g l =
    (goal.iterator-loop-number g).can_next l.number-iterator × (goal.iterator-loop-number g).is_finite l.number-iterator
    × shadow (Utf8 l.separator)
