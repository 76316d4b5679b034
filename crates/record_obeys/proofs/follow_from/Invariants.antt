-- The list holds the members of the set, and those before i have been tested and followed; at its end all have been.
use Rattle.std.proofs.Common.{◌-◌, ◌≤◌, ◌<◌}
use Rattle.laws.proofs.All.{ℕ}
use Rattle.laws.proofs.All.{T, get_or, range, all}
use Rattle.record_queue.specs.Places.{pair_after, finds_at}
use Rattle.record_obeys.proofs.Reaching.{Reaching}
use Rattle.record_obeys.proofs.follow_from.Given as goal

abbrev pub invariant-loop-i : goal.invariant-loop-i
invariant-loop-i l =
    (l.n ≤ 16) × Reaching (pair_after l.word l.next l.power) l.n l.start l.i l.set l.list l.count
    × ((j : ℕ) → j < l.i → T (all (finds_at l.word l.power (get_or l.list j 0)) (range l.n)))

abbrev pub decreases-loop-i : goal.decreases-loop-i
decreases-loop-i l = 2048 - l.i
