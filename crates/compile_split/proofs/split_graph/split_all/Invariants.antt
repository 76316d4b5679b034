-- Each split makes one state more, and no state weighs 0, so the loop ends; the splits left lead from the graph in
-- work to the end.
use Rattle.std.proofs.Common.{◌-◌}
use Rattle.compile_split.proofs.SplitLoop.{Going}
use Rattle.compile_split.proofs.split_graph.split_all.Given as goal

abbrev pub invariant-loop-h : goal.invariant-loop-h
invariant-loop-h l = Going l.n l.fn.g l.h

abbrev pub decreases-loop-h : goal.decreases-loop-h
decreases-loop-h l = 128 - l.h.states
