-- Each turn fills one state of both arrays, so that at the end all states below k + 1 are those of the definition.
use Rattle.constraint.specs.Walking.{none, run_length_state}
use Rattle.constraint.specs.PowerTable.{Filled}
use Rattle.constraint.proofs.Constraint.run_length.Given as goal

abbrev pub invariant-loop-i : goal.invariant-loop-i
invariant-loop-i l =
    Filled (λ i. (run_length_state l.d l.k i).zero) none 16 l.i l.zero
    × Filled (λ i. (run_length_state l.d l.k i).one) none 16 l.i l.one
