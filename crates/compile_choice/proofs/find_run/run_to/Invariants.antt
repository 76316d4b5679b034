-- The weights are summed from place j back, and the first sum that n divides is that of the shortest run.
use Rattle.compile_choice.proofs.RunSearch.{Summed}
use Rattle.compile_choice.proofs.find_run.run_to.Given as goal

abbrev pub invariant-loop-i : goal.invariant-loop-i
invariant-loop-i l = Summed l.n l.weight l.j l.i l.total
