use Rattle.sets.proofs.Words.{word_joined}
use Rattle.sets.proofs.word.joined.Goals as goal

pub returns : goal.returns
returns c = record { value = word_joined c.args.a c.args.b }
