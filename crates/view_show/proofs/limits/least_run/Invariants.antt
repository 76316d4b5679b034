-- With no d passed is the constraint (d, k); the first with which it is ends the loop.
use Rattle.std.proofs.Common.{◌≡◌, ◌<◌}
use Rattle.laws.proofs.All.{false, ℕ}
use Rattle.constraint.specs.Value.{constraint_of}
use Rattle.view_show.specs.Limits.{is_runs}
use Rattle.view_show.proofs.limits.least_run.Given as goal

abbrev pub invariant-loop-d : goal.invariant-loop-d
invariant-loop-d l =
    (j : ℕ) → j < l.d → is_runs (constraint_of l.c) j ≡ false
