use Rattle.sets.proofs.Words.{word_met}
use Rattle.sets.proofs.word.met.Goals as goal

pub returns : goal.returns
returns c = record { value = word_met c.args.a c.args.b }
