-- `first_unmet` meets its contract. The loop's invariant: a round leaves the weights of every state passed.
use Rattle.std.proofs.Common.{◌≡◌, ◌<◌}
use Rattle.laws.proofs.All.{false, ℕ}
use Rattle.compile_weights.specs.Failures.{unmet_by}
use Rattle.compile_weights.proofs.brought.first_unmet.Given as goal

abbrev pub invariant-loop-s : goal.invariant-loop-s
invariant-loop-s l = (j : ℕ) → j < l.s → unmet_by l.count l.v l.k l.n j ≡ false
