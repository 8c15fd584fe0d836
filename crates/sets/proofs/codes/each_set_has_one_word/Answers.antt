use Rattle.sets.proofs.Words.{one_word_each}
use Rattle.sets.proofs.codes.each_set_has_one_word.Goals as goal

pub returns : goal.returns
returns c = record { theorem = one_word_each }
