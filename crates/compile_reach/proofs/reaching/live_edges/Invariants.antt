-- Place x is for the state x / 16 and the state x % 16.
use Rattle.laws.proofs.All.{false, Filled}
use Rattle.compile_reach.specs.ReachSets.{live_edge}
use Rattle.compile_reach.proofs.reaching.live_edges.Given as goal

abbrev pub invariant-loop-x : goal.invariant-loop-x
invariant-loop-x l = Filled false (live_edge l.count l.v) 256 l.x l.r
