-- The splits left lead from the graph in work to the end, and their lines are those that are left. Each split makes
-- one state more, and there are at most 128.
use Rattle.std.proofs.Common.{◌≡◌, ◌-◌}
use Rattle.trace_splits.proofs.SplitTexts.{Told}
use Rattle.trace_splits.proofs.write_splits.Given as goal

abbrev pub invariant-loop-h : goal.invariant-loop-h
invariant-loop-h l =
    let begin = l.initial.to in
    (l.to.out.ghost_name ≡ begin.out.ghost_name)
    × Told l.n l.q l.initial.h l.h begin.at begin.out.now l.to.out.now l.to.at

abbrev pub decreases-loop-h : goal.decreases-loop-h
decreases-loop-h l = 128 - l.h.states
