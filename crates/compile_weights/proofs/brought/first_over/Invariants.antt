-- `first_over` meets its contract. The loop's invariant: the weights of every state passed are at most cap.
use Rattle.std.proofs.Common.{◌≡◌, ◌<◌}
use Rattle.laws.proofs.All.{false, ℕ}
use Rattle.compile_weights.specs.Failures.{over}
use Rattle.compile_weights.proofs.brought.first_over.Given as goal

abbrev pub invariant-loop-s : goal.invariant-loop-s
invariant-loop-s l = (j : ℕ) → j < l.s → over l.cap l.v j ≡ false
