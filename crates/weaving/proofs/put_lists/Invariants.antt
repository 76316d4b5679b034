-- `put_lists` meets its contract: each turn puts one list, and all of them are the words read across.
use Rattle.weaving.proofs.Spread.{Lists}
use Rattle.weaving.proofs.put_lists.Given as goal

abbrev pub invariant-loop-r : goal.invariant-loop-r
invariant-loop-r l = Lists l.a l.b l.r l.words l.initial.out l.out
