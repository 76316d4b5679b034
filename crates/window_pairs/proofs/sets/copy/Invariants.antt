-- The rows that the loop has passed are those of the set.
use Rattle.std.proofs.Common.{◌≡◌}
use Rattle.laws.proofs.All.{take}
use Rattle.window_pairs.specs.PairSets.{Long}
use Rattle.window_pairs.proofs.sets.copy.Given as goal

abbrev pub invariant-loop-x : goal.invariant-loop-x
invariant-loop-x l = Long l.out × (take l.x l.out ≡ take l.x l.set)
