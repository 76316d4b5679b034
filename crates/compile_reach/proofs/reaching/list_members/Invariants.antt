-- The states that pass are appended, and each gets its place as its number.
use Rattle.std.proofs.Common.{◌&&◌}
use Rattle.laws.proofs.All.{ltb, get_or}
use Rattle.compile_reach.specs.ReachSets.{reach_at}
use Rattle.compile_reach.proofs.Numbering.{Numbered}
use Rattle.compile_reach.proofs.reaching.list_members.Given as goal

abbrev pub invariant-loop-t : goal.invariant-loop-t
invariant-loop-t l =
    Numbered (λ x. ltb 0 (get_or l.v x 0) && reach_at l.m x l.s) l.t l.count l.state l.index
