-- What the stages of compiling in code hand on.
-- In order: Begun, the component by value.
-- Assumes nothing.
use Rattle.std.specs.Prelude.{◌≡◌, ℕ, ◌≤◌, ◌<◌}
use Rattle.laws.specs.Lists.{sum}
use Rattle.compile_graph.specs.declared.Graph.{Graph}
use Rattle.compile_graph.specs.Value.{work_in, Fits}
use Rattle.compile_job.specs.Jobs.{Job}
use Rattle.compile.specs.Compile.{ways, component_of, start_of}

-- the graph g is the job's component, with n ways out of each state to come, and weighs from 1 to 128
pub record Begun (j : Job) (n : ℕ) (g : Graph) (start : ℕ) : Type 0 where
  pub count : n ≡ ways j
  pub work : work_in g ≡ component_of j
  pub fits : Fits g
  pub first : start ≡ start_of j
  pub some : 0 < sum (component_of j).weights
  pub light : sum (component_of j).weights ≤ 128
