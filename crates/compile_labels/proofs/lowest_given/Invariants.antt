-- `lowest_given` meets its contract. The loop's invariant: none of the data passed is given and free.
use Rattle.std.proofs.Common.{◌≡◌, ◌&&◌, ◌≤◌, ◌<◌}
use Rattle.laws.proofs.All.{false, ℕ, take}
use Rattle.compile_labels.specs.Labels.{carries, free}
use Rattle.compile_labels.proofs.lowest_given.Given as goal

abbrev pub invariant-loop-d : goal.invariant-loop-d
invariant-loop-d l =
    (l.d ≤ l.n) × ((e : ℕ) → e < l.d → (carries l.words l.w e && free (take l.k l.ds) e) ≡ false)
