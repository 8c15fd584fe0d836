use Rattle.book.proofs.Numbers.{each_number_once}
use Rattle.book.proofs.refusal.each_number_once.Goals as goal

pub returns-clause-theorem : goal.returns-clause-theorem
returns-clause-theorem c = each_number_once
