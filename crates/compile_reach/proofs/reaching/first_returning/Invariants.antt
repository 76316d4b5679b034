-- The states are tried from the lowest on.
use Rattle.std.proofs.Common.{◌≡◌, ◌&&◌, ◌<◌}
use Rattle.laws.proofs.All.{false, ℕ, take}
use Rattle.compile_graph.specs.Component.{returning, weighs, live}
use Rattle.compile_reach.specs.ReachSets.{rows_of}
use Rattle.compile_reach.proofs.reaching.first_returning.Given as goal

abbrev pub invariant-loop-s : goal.invariant-loop-s
invariant-loop-s l =
    (j : ℕ) → j < l.s → (weighs (take l.k l.v) j && returning (rows_of l.m l.k) (live (take l.k l.v)) j) ≡ false
