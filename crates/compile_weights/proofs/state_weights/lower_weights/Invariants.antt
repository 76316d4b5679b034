-- The new weights go into a fresh array, so that all are replaced together.
use Rattle.laws.proofs.All.{Filled}
use Rattle.compile_weights.specs.PowerTable.{lower_by}
use Rattle.compile_weights.proofs.state_weights.lower_weights.Given as goal

abbrev pub invariant-loop-s : goal.invariant-loop-s
invariant-loop-s l = Filled 0 (λ x. lower_by l.count l.v l.k x l.n) 16 l.s l.r
