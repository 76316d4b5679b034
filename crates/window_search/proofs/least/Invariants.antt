-- The best window with memory below m and the pairs of memory m are known, and memory m can be better.
use Rattle.std.proofs.Common.{◌≡◌, ◌+◌, ◌≤◌}
use Rattle.window.specs.Search.{pasts}
use Rattle.table.specs.Edges.{rows_of}
use Rattle.table.specs.Lent.{edges_in}
use Rattle.window_pairs.specs.PairSets.{pairs_in, Long}
use Rattle.window.specs.Steps.{Leading}
use Rattle.window_search.specs.Finding.{found_size}
use Rattle.window_search.proofs.least.Given as goal

abbrev pub invariant-loop-m : goal.invariant-loop-m
invariant-loop-m l =
    let t = rows_of (edges_in l.chains.edges) in
    (l.m ≤ (found_size l.best).memory + (found_size l.best).lookahead)
    × (pairs_in l.chains.edges.states l.past ≡ pasts t l.m) × Leading t l.m (found_size l.best)
    × Long l.past × Long l.set × Long l.spare
