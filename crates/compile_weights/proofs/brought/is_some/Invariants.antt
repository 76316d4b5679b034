-- `is_some` meets its contract. The loop's invariant: the weights of all states passed are 0.
use Rattle.std.proofs.Common.{◌≡◌}
use Rattle.laws.proofs.All.{false, range, any}
use Rattle.compile_graph.specs.Weights.{weighty}
use Rattle.compile_weights.proofs.brought.is_some.Given as goal

abbrev pub invariant-loop-s : goal.invariant-loop-s
invariant-loop-s l = any (weighty l.v) (range l.s) ≡ false
