-- What the parts of choosing a split answer.
-- In order: run_in, RunTo, FirstRun, what a search for a run finds.
-- Assumes nothing.
use Rattle.std.specs.Prelude.{◌≡◌, true, false, List, [], map, ℕ, ◌+◌, ◌≤◌, ◌<◌, length, take, drop}
use Rattle.std.specs.Prelude.{Option, IfSome, IfNone}
use Rattle.laws.specs.Lists.{any, first}
use Rattle.compile_choice.specs.declared.find_run.Run.{Run}
use Rattle.compile_graph.specs.Arcs.{Arc}
use Rattle.compile_graph.specs.Weights.{weight, total}
use Rattle.compile_graph.specs.Splitting.{runs_to, divisible, first_run}

-- the edges of es where the run stands
abbrev pub run_in : Run → List Arc → List Arc
run_in r es = take r.count (drop r.from es)

-- whatever the edges of weights W are, r is the shortest run of them that ends at place j, or none if there is none
pub record RunTo (n : ℕ) (W : List ℕ) (j : ℕ) (r : Option Run) : Type 0 where
  pub inside : IfSome r (λ x. (0 < x.count) × (x.from + x.count ≤ length W))
  pub some : (v : List ℕ) (es : List Arc) → map (weight v) es ≡ W
      → IfSome r (λ x. (any (divisible n v) (runs_to es j) ≡ true)
      × (first (divisible n v) [] (runs_to es j) ≡ run_in x es) × (total v (run_in x es) ≡ x.total))
  pub none : (v : List ℕ) (es : List Arc) → map (weight v) es ≡ W
      → IfNone r (any (divisible n v) (runs_to es j) ≡ false)

-- whatever the edges of weights W are, r is the run that ends first, and of those the shortest
pub record FirstRun (n : ℕ) (W : List ℕ) (r : Run) : Type 0 where
  pub inside : r.from + r.count ≤ length W
  pub run : (v : List ℕ) (es : List Arc) → map (weight v) es ≡ W
      → (first_run n v es ≡ run_in r es) × (total v (run_in r es) ≡ r.total)
