-- `check_set` meets its contract: before each turn the answer of the whole set is that of the walk from the offset on.
use Rattle.set_check.proofs.Walks.{Walking}
use Rattle.set_check.proofs.check_set.Given as goal

abbrev pub invariant-loop-number : goal.invariant-loop-number
invariant-loop-number l = Walking l.set l.count l.number l.at
