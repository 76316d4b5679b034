-- The states are tried one by one.
use Rattle.std.proofs.Common.{◌≡◌, ◌<◌}
use Rattle.laws.proofs.All.{false, ℕ}
use Rattle.compile_reach.proofs.ReturnTests.{fails_at}
use Rattle.compile_reach.proofs.reaching.returns_all.Given as goal

abbrev pub invariant-loop-t : goal.invariant-loop-t
invariant-loop-t l = (j : ℕ) → j < l.t → fails_at l.m l.v l.s j ≡ false
