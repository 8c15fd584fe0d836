use Rattle.std.proofs.Common.{◌≡◌, length}
use Rattle.sets.specs.Word.{bit}
use Rattle.editing.specs.Edits.{outside}
use Rattle.editing.specs.Tables.{reading}
use Rattle.book.specs.Books.{domains_of}
use Rattle.book.proofs.record.Record.outside_mask.Given as goal

abbrev pub invariant-loop-i : goal.invariant-loop-i
invariant-loop-i g l = bit l.mask ≡ outside (length l.yielded) (domains_of g.K.ValueSet.has l.self.book.now) (reading l.self.values.now)
