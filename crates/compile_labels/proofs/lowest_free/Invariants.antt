-- `lowest_free` meets its contract. The loop's invariant: none of the data passed is free.
use Rattle.std.proofs.Common.{◌≡◌, ◌≤◌, ◌<◌}
use Rattle.laws.proofs.All.{false, ℕ, take}
use Rattle.compile_labels.specs.Labels.{free}
use Rattle.compile_labels.proofs.lowest_free.Given as goal

abbrev pub invariant-loop-d : goal.invariant-loop-d
invariant-loop-d l = (l.d ≤ l.n) × ((e : ℕ) → e < l.d → free (take l.n l.ds) e ≡ false)
