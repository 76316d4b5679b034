-- Each turn of the inner loop fills the place of one word, and each of the outer one the places of one state.
use Rattle.std.proofs.Common.{◌+◌, ◌*◌}
use Rattle.constraint.specs.Value.{constraint_of}
use Rattle.constraint.specs.PowerTable.{PowerFilled}
use Rattle.constraint.proofs.Constraint.power_table.Given as goal

abbrev pub invariant-loop-s : goal.invariant-loop-s
invariant-loop-s l = PowerFilled (constraint_of l.self) l.q (l.s * 256) l.table

abbrev pub invariant-loop-w : goal.invariant-loop-w
invariant-loop-w l = PowerFilled (constraint_of l.self) l.q (l.s * 256 + l.w) l.table
