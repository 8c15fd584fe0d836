use Rattle.std.proofs.Common.{arith}
use Rattle.book.proofs.Flags.{flags_none, flags_more}
use Rattle.book.proofs.record.Record.failed_flags.Goals as goal

pub loop-place-init : goal.loop-place-init
loop-place-init g c = flags_none 255 _

pub loop-place-preserved : goal.loop-place-preserved
loop-place-preserved g c =
    flags_more 255 _ _ _ _ (omega (arith, c.args.self.now.ready.book.sized.few_edits)) c.loop-place.invariant c.fails.ensures.decides
