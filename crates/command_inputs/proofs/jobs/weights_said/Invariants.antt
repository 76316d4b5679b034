-- `weights_said` meets its contract: the five numbers stay, and each weight is one that a byte holds.
use Rattle.std.proofs.Common.{◌≡◌, length, take}
use Rattle.command_inputs.proofs.jobs.weights_said.Given as goal

abbrev pub invariant-loop-i : goal.invariant-loop-i
invariant-loop-i g l = (21 ≡ length l.job) × (take 5 l.job ≡ take 5 l.initial.job)
