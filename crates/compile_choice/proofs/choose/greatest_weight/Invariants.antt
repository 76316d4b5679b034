-- The greatest of the weights passed so far.
use Rattle.std.proofs.Common.{◌≡◌}
use Rattle.laws.proofs.All.{map, range}
use Rattle.compile_graph.specs.Splitting.{greatest}
use Rattle.compile_graph.specs.Value.{weight_at}
use Rattle.compile_choice.proofs.choose.greatest_weight.Given as goal

abbrev pub invariant-loop-i : goal.invariant-loop-i
invariant-loop-i l = l.greatest ≡ greatest (map (weight_at l.g) (range l.i))
