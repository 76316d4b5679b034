-- `walk` is safe. The loop's invariant: the place reached is within the file, the counts are small, and the case read
-- there has its parts in order. The measure is what is left of the file.
use Rattle.std.proofs.Common.{◌-◌, ◌≤◌, ◌<◌, length}
use Rattle.cases.specs.Placing.{Placed}
use Rattle.vectors.specs.Counting.{Few}
use Rattle.vectors.proofs.walk.walk.Given as goal

abbrev pub invariant-loop-c : goal.invariant-loop-c
invariant-loop-c g l = (l.t.at ≤ length l.bytes) × Few l.t × Placed l.c × (l.t.at < l.c.end)

abbrev pub decreases-loop-c : goal.decreases-loop-c
decreases-loop-c g l = length l.bytes - l.t.at
