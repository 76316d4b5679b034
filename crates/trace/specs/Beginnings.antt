-- What the code finds of a job before anything is split.
-- In order: FoundOf.
-- Assumes nothing.
use Rattle.std.specs.Prelude.{◌≡◌, ℕ, ◌≤◌, get_or, take}
use Rattle.compile_graph.specs.Component.{component_states}
use Rattle.compile_component.specs.ComponentParts.{FoundIn}
use Rattle.compile_job.specs.Jobs.{Job}
use Rattle.compile.specs.Compile.{graph_of, weights_of}
use Rattle.trace.specs.declared.beginnings.Beginning.{Beginning}

-- the weights of k states, the states of the component, the first of which is its start, and the component are those
-- of the job
pub record FoundOf (j : Job) (k : ℕ) (b : Beginning) : Type 0 where
  pub weights : take k b.weight ≡ weights_of j
  pub few : b.count ≤ 16
  pub states : take b.count b.states ≡ component_states (weights_of j) (graph_of j)
  pub start : b.found.start ≡ get_or (take b.count b.states) 0 0
  pub found : FoundIn (weights_of j) (graph_of j) b.found
