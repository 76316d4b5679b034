-- The states are tried one by one.
use Rattle.std.proofs.Common.{◌≤◌, ◌<◌}
use Rattle.laws.proofs.All.{ℕ, get_or}
use Rattle.compile_parts.proofs.is_unfinished.Given as goal

abbrev pub invariant-loop-s : goal.invariant-loop-s
invariant-loop-s l = (j : ℕ) → j < l.s → l.n ≤ get_or l.counts j 0
