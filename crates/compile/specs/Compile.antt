-- "Compiling": a job to a code, and to its record in lent bytes, with refusals "3, 4, 5, 6, 13" in this order.
-- In order: ways, graph_of; Vector, what the weights are the greatest of; greatest_of, used, weights_of, component_of,
-- start_of, finished_of, table_for; code, compile; compile_into; compile_job, compile_run_length, compile_joined, from
-- bytes to
-- bytes.
-- Assumes nothing.
use Rattle.std.specs.Prelude.{not, List, ℕ, ◌^◌, ◌≤◌, ltb, leb, length, get_or}
use Rattle.laws.specs.Lists.{sum}
use Rattle.answer.specs.declared.Refusal.TheVariants.{NoCode, TooHeavy, TooManyEdges, NoWindow}
use Rattle.answer.specs.Outcomes.{Outcome, done, unless, onward}
use Rattle.table.specs.Rows.{Rows, Code}
use Rattle.window.specs.Search.{window}
use Rattle.record.specs.Parse.{pack_into}
use Rattle.compile_graph.specs.Arcs.{Arc, Work, power}
use Rattle.compile_graph.specs.Weights.{Enough, weights}
use Rattle.compile_graph.specs.Component.{component_states, component_graph}
use Rattle.compile_graph.specs.Splitting.{crowded, split_all}
use Rattle.compile_table.specs.TableOf.{table_of}
use Rattle.compile_labels.specs.Labels.{relabelled}
use Rattle.compile_job.specs.Jobs.{Choice, computed, brought, Job, read_job, read_run_length, read_joined}

-- "Let n = 2^p."
abbrev pub ways : Job → ℕ
ways j = 2 ^ j.p

-- the words that the job's constraint allows
abbrev pub graph_of : Job → List Arc
graph_of j = power j.constraint j.q

-- "vector with A v ≥ n v and entries up to cap"; entries that are not there are 0
pub record Vector (j : Job) (u : List ℕ) : Type 0 where
  pub short : length u ≤ length j.constraint
  pub capped : (s : ℕ) → get_or u s 0 ≤ j.cap
  pub enough : Enough (ways j) (graph_of j) u

-- the greatest weights of the constraint's states
abbrev pub greatest_of : Job → List ℕ
greatest_of j = weights (ways j) j.cap (length j.constraint) (graph_of j)

-- those, or the weights that come with the job
abbrev pub used : List ℕ → Choice → List ℕ
used v computed = v
used v (brought u) = u

-- the weights of the constraint's states: "The component, the splits and everything after use them"
abbrev pub weights_of : Job → List ℕ
weights_of j = used (greatest_of j) j.choice

-- the component with its weights
abbrev pub component_of : Job → Work
component_of j = component_graph (weights_of j) (graph_of j)

-- "its number in the job's constraint is the record's constraint start"
abbrev pub start_of : Job → ℕ
start_of j = get_or (component_states (weights_of j) (graph_of j)) 0 0

-- the graph after all splits
abbrev pub finished_of : Job → Work
finished_of j = split_all (ways j) (component_of j)

-- the table of that graph, with the data of its edges
abbrev pub table_for : Job → Rows
table_for j = relabelled (ways j) (table_of (ways j) (finished_of j))

-- the code with the table t and its least window: "The compiler writes 0" for the tail datum
abbrev pub code : Job → Rows → Code
code j t = record {
  p = j.p;
  q = j.q;
  window = window t;
  constraint = j.constraint;
  start = start_of j;
  tail = 0;
  table = t;
}

-- "all weights 0", "component's weights sum over 128", "over 2,048 edges", "no window up to 15 and 15"
unfoldable pub compile : Job → Outcome Code
compile j =
    unless NoCode (ltb 0 (sum (component_of j).weights))
    (unless TooHeavy (leb (sum (component_of j).weights) 128)
    (unless TooManyEdges (not (crowded (finished_of j)))
    (let k = code j (table_for j) in unless NoWindow (leb k.window.memory 15) (done k))))

-- the record of the job's code in lent bytes
abbrev pub compile_into : ℕ → Job → Outcome (List ℕ)
compile_into room j = onward (compile j) (λ c. pack_into c room)

-- a job's bytes compiled to a record
unfoldable pub compile_job : List ℕ → ℕ → Outcome (List ℕ)
compile_job xs room = onward (read_job xs) (compile_into room)

-- a run-length job's bytes compiled to a record
unfoldable pub compile_run_length : List ℕ → ℕ → Outcome (List ℕ)
compile_run_length xs room = onward (read_run_length xs) (compile_into room)

-- the bytes of a job with two constraints compiled to a record
unfoldable pub compile_joined : List ℕ → ℕ → Outcome (List ℕ)
compile_joined xs room = onward (read_joined xs) (compile_into room)
