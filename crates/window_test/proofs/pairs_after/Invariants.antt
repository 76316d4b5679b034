-- After so many turns the pairs are those of that memory; once they stay the same they are those of every larger memory.
use Rattle.std.proofs.Common.{◌≡◌}
use Rattle.window.specs.Search.{pasts}
use Rattle.table.specs.Edges.{rows_of}
use Rattle.table.specs.Lent.{edges_in}
use Rattle.window_pairs.specs.PairSets.{pairs_in, Long}
use Rattle.window_test.proofs.pairs_after.Given as goal

abbrev pub invariant-loop-turn : goal.invariant-loop-turn
invariant-loop-turn l =
    (pairs_in l.chains.edges.states l.past ≡ pasts (rows_of (edges_in l.chains.edges)) l._turn) × Long l.past
    × Long l.spare
