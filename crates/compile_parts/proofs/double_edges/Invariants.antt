-- Each edge into s is appended once more, to the new state. There is room, since the edges after it were counted.
use Rattle.std.proofs.Common.{◌≤◌}
use Rattle.compile_parts.proofs.Doubling.{Grown}
use Rattle.compile_parts.proofs.double_edges.Given as goal

abbrev pub invariant-loop-i : goal.invariant-loop-i
invariant-loop-i l = (l.edges ≤ 2048) × Grown l.g l.s l.h l.edges l.i
