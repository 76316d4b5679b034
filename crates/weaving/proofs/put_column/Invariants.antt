-- `put_column` meets its contract: each turn puts one element after those before it.
use Rattle.std.proofs.Common.{◌≡◌, ◌++◌, ◌+◌, ◌*◌}
use Rattle.laws.proofs.All.{map, take, drop, from}
use Rattle.weaving.specs.Weaving.{transposed_at}
use Rattle.weaving.proofs.put_column.Given as goal

abbrev pub invariant-loop-r : goal.invariant-loop-r
invariant-loop-r l =
    l.out ≡ (take (l.j * l.a) l.initial.out ++ map (transposed_at l.a l.b l.words) (from (l.j * l.a) l.r))
    ++ drop (l.j * l.a + l.r) l.initial.out
