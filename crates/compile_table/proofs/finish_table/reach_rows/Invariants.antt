-- The edges of each state reached are followed once; in the end no edge leads out of the set.
use Rattle.laws.proofs.All.{missing}
use Rattle.compile_table.specs.Finishing.{Finished}
use Rattle.compile_table.proofs.Closure.{Forward}
use Rattle.compile_table.proofs.finish_table.reach_rows.Given as goal

abbrev pub invariant-loop-s : goal.invariant-loop-s
invariant-loop-s l = (h : Finished l.n l.g) × Forward l.n l.g h l.set l.done

abbrev pub decreases-loop-s : goal.decreases-loop-s
decreases-loop-s l = missing l.done
