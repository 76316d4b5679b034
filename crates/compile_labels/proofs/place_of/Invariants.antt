-- `place_of` meets its contract. The loop's invariant: d is none of those passed.
use Rattle.std.proofs.Common.{◌≡◌, ◌+◌, ◌≤◌}
use Rattle.laws.proofs.All.{length, take, drop, index_of}
use Rattle.compile_labels.proofs.place_of.Given as goal

abbrev pub invariant-loop-i : goal.invariant-loop-i
invariant-loop-i l =
    (l.i ≤ l.k) × (l.k ≤ 16) × (length (take l.k l.list) ≡ l.k)
    × (index_of l.d (take l.k l.list) ≡ l.i + index_of l.d (drop l.i (take l.k l.list)))
