-- The arrays hold the next pairs of every pair passed.
use Rattle.laws.proofs.All.{get_or}
use Rattle.constraint.specs.Walking.{none}
use Rattle.constraint.specs.Value.{constraint_of}
use Rattle.constraint.specs.PowerTable.{Filled}
use Rattle.joining.specs.Joined.{next_pair}
use Rattle.joining.proofs.Both.join_states.Given as goal

abbrev pub invariant-loop-s : goal.invariant-loop-s
invariant-loop-s l =
    Filled (λ k. next_pair (constraint_of l.self.first) (constraint_of l.self.second) l.list 0 (get_or l.list k 0)) none
    16 l.s l.zero
    × Filled (λ k. next_pair (constraint_of l.self.first) (constraint_of l.self.second) l.list 1 (get_or l.list k 0))
    none 16 l.s l.one
