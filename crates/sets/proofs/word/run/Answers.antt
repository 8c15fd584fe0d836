use Rattle.std.proofs.Common.{rules}
use Rattle.sets.proofs.Words.{word_run}
use Rattle.sets.proofs.word.run.Goals as goal

pub returns : goal.returns
returns c = record { value = word_run c.args.run.low c.args.run.high (search rules) (search rules) }
