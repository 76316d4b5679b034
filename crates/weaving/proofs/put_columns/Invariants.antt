-- `put_columns` meets its contract: each turn puts one column after those before it.
use Rattle.std.proofs.Common.{◌≡◌, ◌++◌, ◌*◌}
use Rattle.laws.proofs.All.{map, drop, range}
use Rattle.weaving.specs.Weaving.{transposed_at}
use Rattle.weaving.proofs.put_columns.Given as goal

abbrev pub invariant-loop-j : goal.invariant-loop-j
invariant-loop-j l = l.out ≡ map (transposed_at l.a l.b l.words) (range (l.j * l.a)) ++ drop (l.j * l.a) l.initial.out
