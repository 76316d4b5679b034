-- The walks that are left lead to the pairs, and each walk added two pairs at most.
use Rattle.std.proofs.Common.{◌≡◌, ◌+◌, ◌*◌, ◌-◌, ◌≤◌}
use Rattle.laws.proofs.All.{length}
use Rattle.constraint.specs.Value.{constraint_of}
use Rattle.joining.specs.Joined.{walked_from, pairs}
use Rattle.joining.proofs.Both.all_pairs.Given as goal

abbrev pub invariant-loop-i : goal.invariant-loop-i
invariant-loop-i l =
    (length l.list.items ≤ 2 * l.i + 1)
    × (walked_from (constraint_of l.self.first) (constraint_of l.self.second) (16 - l.i) l.i l.list.items
    ≡ pairs (constraint_of l.self.first) (constraint_of l.self.second))
