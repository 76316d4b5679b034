-- `good_states` meets its contract. The loop's invariant: the next states of every state passed are states or none.
use Rattle.std.proofs.Common.{◌≡◌, ◌<◌}
use Rattle.laws.proofs.All.{true, ℕ}
use Rattle.compile_job.specs.JobValues.{good_state_at}
use Rattle.compile_job.proofs.rules.good_states.Given as goal

abbrev pub invariant-loop-s : goal.invariant-loop-s
invariant-loop-s l = (k : ℕ) → k < l.s → good_state_at l.bytes l.count k ≡ true
