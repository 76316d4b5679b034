-- `states_of` meets its contract. The loop's invariant: the arrays hold the next states of every state passed.
use Rattle.std.proofs.Common.{◌+◌, ◌*◌}
use Rattle.laws.proofs.All.{get_or}
use Rattle.constraint.specs.Walking.{none}
use Rattle.constraint.specs.PowerTable.{Filled}
use Rattle.compile_job.proofs.rules.states_of.Given as goal

abbrev pub invariant-loop-s : goal.invariant-loop-s
invariant-loop-s l =
    Filled (λ k. get_or l.bytes (1 + k * 2) 0) none 16 l.s l.zero
    × Filled (λ k. get_or l.bytes (2 + k * 2) 0) none 16 l.s l.one
