-- The loop has found no state in the rows that it has passed.
use Rattle.std.proofs.Common.{◌≡◌}
use Rattle.laws.proofs.All.{false}
use Rattle.table.specs.Marks.{some}
use Rattle.window_pairs.specs.PairSets.{row_has}
use Rattle.window_pairs.proofs.sets.is_empty.Given as goal

abbrev pub invariant-loop-x : goal.invariant-loop-x
invariant-loop-x l = some (row_has l.states l.pairs) l.x ≡ false
