-- The terms are summed over the states.
use Rattle.std.proofs.Common.{◌≡◌, ◌*◌, ◌≤◌}
use Rattle.laws.proofs.All.{range, tot}
use Rattle.compile_weights.specs.PowerTable.{term_by}
use Rattle.compile_weights.proofs.state_weights.led_weight.Given as goal

abbrev pub invariant-loop-t : goal.invariant-loop-t
invariant-loop-t l = (l.sum ≤ 4096 * l.t) × (l.sum ≡ tot (term_by l.count l.v l.s) (range l.t))
