-- `stands` meets its contract. The loop's invariant: the bytes passed are as expected.
use Rattle.std.proofs.Common.{length, ◌≡◌, ◌≤◌, ◌<◌, get_or, ℕ}
use Rattle.judging.proofs.stands.Given as goal

abbrev pub invariant-loop-i : goal.invariant-loop-i
invariant-loop-i l =
    (length l.output ≤ length l.out) × ((k : ℕ) → k < l.i → get_or l.out k 0 ≡ get_or l.output k 165)
