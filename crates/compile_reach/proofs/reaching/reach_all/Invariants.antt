-- Rounds until nothing changes; further rounds change nothing, and as many as states are always enough.
use Rattle.std.proofs.Common.{◌≤◌}
use Rattle.compile_reach.proofs.ReachRounds.{Rounds}
use Rattle.compile_reach.proofs.reaching.reach_all.Given as goal

abbrev pub invariant-loop-round : goal.invariant-loop-round
invariant-loop-round l = (h : l.k ≤ 16) × Rounds l.edge l.k h l._round l.m
