-- Each turn marks where the edges with the word lead of which one carries the datum and the other does not.
use Rattle.std.proofs.Common.{Some}
use Rattle.table.specs.Lent.{edges_in}
use Rattle.window_pairs.specs.PairSets.{Long, joins_by, Marked}
use Rattle.window_pairs.proofs.mark_clashes.Given as goal

abbrev pub invariant-loop-datum : goal.invariant-loop-datum
invariant-loop-datum l =
    Long l.targets × Marked l.initial.out
    (λ u v d. joins_by (edges_in l.chains.edges) l.pairs (Some d) u v l.w) l.datum l.out
