-- The states are tried from the lowest on.
use Rattle.std.proofs.Common.{◌≡◌, ◌&&◌, ◌<◌}
use Rattle.laws.proofs.All.{false, not, ℕ, member}
use Rattle.compile_table.proofs.finish_table.next_open.Given as goal

abbrev pub invariant-loop-s : goal.invariant-loop-s
invariant-loop-s l = (j : ℕ) → j < l.s → (member l.set j && not (member l.done j)) ≡ false
