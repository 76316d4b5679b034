-- `weights_at` meets its contract. The loop's invariant: the array holds the weights of every state passed.
use Rattle.std.proofs.Common.{◌+◌}
use Rattle.laws.proofs.All.{get_or}
use Rattle.laws.proofs.All.{Filled}
use Rattle.compile_job.proofs.bringing.weights_at.Given as goal

abbrev pub invariant-loop-s : goal.invariant-loop-s
invariant-loop-s l =
    Filled 0 (λ x. get_or l.bytes (l.start + x) 0) 16 l.s l.weight
