-- Place x is for the state x / 16 and the state x % 16.
use Rattle.std.proofs.Common.{◌/◌, ◌%◌}
use Rattle.laws.proofs.All.{false, eqb, Filled}
use Rattle.compile_reach.proofs.reaching.themselves.Given as goal

abbrev pub invariant-loop-x : goal.invariant-loop-x
invariant-loop-x l =
    Filled false (λ y. eqb (y / 16) (y % 16)) 256 l.x l.r
