-- The states are tried one by one.
use Rattle.std.proofs.Common.{◌≡◌}
use Rattle.laws.proofs.All.{false}
use Rattle.laws.proofs.All.{range, any}
use Rattle.compile_reach.specs.ReachSets.{passes_on}
use Rattle.compile_reach.proofs.reaching.leads_any.Given as goal

abbrev pub invariant-loop-u : goal.invariant-loop-u
invariant-loop-u l = any (passes_on l.edge l.m l.t l.s) (range l.u) ≡ false
