-- `five_said` meets its contract: five numbers, each of which a byte holds.
use Rattle.std.proofs.Common.{◌≡◌, length}
use Rattle.command_inputs.proofs.jobs.five_said.Given as goal

abbrev pub invariant-loop-i : goal.invariant-loop-i
invariant-loop-i g l = 21 ≡ length l.job
