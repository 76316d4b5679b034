-- The new places go into a fresh array.
use Rattle.std.proofs.Common.{◌||◌, ◌/◌, ◌%◌}
use Rattle.laws.proofs.All.{false, get_or, range, any, Filled}
use Rattle.compile_reach.specs.ReachSets.{passes_on}
use Rattle.compile_reach.proofs.reaching.reach_step.Given as goal

abbrev pub invariant-loop-x : goal.invariant-loop-x
invariant-loop-x l =
    Filled false
    (λ y. get_or l.m y false || any (passes_on l.edge l.m (y / 16) (y % 16)) (range l.k)) 256 l.x l.r
