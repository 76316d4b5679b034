-- The count so far is the rank.
use Rattle.std.proofs.Common.{◌≡◌, ◌≤◌}
use Rattle.laws.proofs.All.{Filled}
use Rattle.compile_table.specs.Finishing.{rank}
use Rattle.compile_table.proofs.finish_table.ranks.Given as goal

abbrev pub invariant-loop-t : goal.invariant-loop-t
invariant-loop-t l = (l.count ≤ l.t) × (l.count ≡ rank l.set l.t) × Filled 0 (rank l.set) 128 l.t l.ranks
