-- Each edge counts at its source.
use Rattle.compile_parts.proofs.Counts.{Counted}
use Rattle.compile_parts.proofs.out_counts.Given as goal

abbrev pub invariant-loop-i : goal.invariant-loop-i
invariant-loop-i l = Counted l.g l.i l.counts
