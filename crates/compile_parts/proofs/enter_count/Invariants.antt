-- The edges into s are counted.
use Rattle.std.proofs.Common.{◌≡◌, ◌≤◌}
use Rattle.laws.proofs.All.{length}
use Rattle.compile_parts.proofs.Doubling.{entered}
use Rattle.compile_parts.proofs.enter_count.Given as goal

abbrev pub invariant-loop-i : goal.invariant-loop-i
invariant-loop-i l = (l.count ≤ l.i) × (l.count ≡ length (entered l.g l.s l.i))
