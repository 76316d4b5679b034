-- Each turn writes the byte of one place.
use Rattle.laws.proofs.All.{get_or}
use Rattle.std.proofs.Common.{None}
use Rattle.constraint.specs.PowerTable.{code_of, Filled}
use Rattle.constraint.proofs.power.codes.Given as goal

abbrev pub invariant-loop-i : goal.invariant-loop-i
invariant-loop-i l = Filled (λ i. code_of (get_or l.table i None)) 0 4096 l.i l.out
