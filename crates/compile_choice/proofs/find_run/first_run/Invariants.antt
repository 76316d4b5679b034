-- The places are tried from the first on, and the first that ends a run ends the search.
use Rattle.compile_choice.proofs.RunSearch.{Without}
use Rattle.compile_choice.proofs.find_run.first_run.Given as goal

abbrev pub invariant-loop-j : goal.invariant-loop-j
invariant-loop-j l = Without l.n l.weight l.j
