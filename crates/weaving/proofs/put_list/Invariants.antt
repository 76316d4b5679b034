-- `put_list` meets its contract: each turn puts one element at its place.
use Rattle.weaving.specs.Spread.{Spread}
use Rattle.weaving.proofs.put_list.Given as goal

abbrev pub invariant-loop-i : goal.invariant-loop-i
invariant-loop-i l = Spread l.a l.b l.r l.i l.words l.initial.out l.out
