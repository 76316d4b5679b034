-- After k turns the set is the one after k steps, and none of the sets before it was empty.
use Rattle.table.specs.Edges.{rows_of}
use Rattle.table.specs.Lent.{edges_in}
use Rattle.window_pairs.specs.PairSets.{pairs_in, Long}
use Rattle.window_test.proofs.Stepped.{Stepped}
use Rattle.window_test.proofs.steps.lookahead_needed.Given as goal

abbrev pub invariant-loop-k : goal.invariant-loop-k
invariant-loop-k l =
    Stepped (rows_of (edges_in l.chains.edges)) l.chains.edges.states
    (pairs_in l.chains.edges.states l.initial.set) l.most l.set l.k
    × Long l.set × Long l.spare
