-- Each turn puts one edge in front of the chain of its word.
use Rattle.std.proofs.Common.{◌≡◌}
use Rattle.table.specs.Edges.{Chained}
use Rattle.table.specs.Lent.{edges_in}
use Rattle.table.proofs.linked.Chains.of.Given as goal

abbrev pub invariant-loop-e : goal.invariant-loop-e
invariant-loop-e l = (l.chains.0 ≡ l.edges) × Chained (edges_in l.edges) l.e l.chains.1.0 l.chains.1.1.0
