-- The trace of a job: "Compiling" 1 to 5, one line a step, and the answer last.
-- In order: stages, all steps; window_line, ending, the last line; traced; failing, where weights that come with a job
-- fail; tracing, traced_job, traced_run_length, from bytes.
-- Assumes nothing.
use Rattle.std.specs.Prelude.{if◌then◌else◌, ◌||◌, List, [], ◌∷◌, ◌++◌, ℕ, ltb, eqb}
use Rattle.laws.specs.Lists.{sum}
use Rattle.answer.specs.declared.Refusal.TheVariants.{BadWeights}
use Rattle.answer.specs.Outcomes.{Outcome, done, refused}
use Rattle.table.specs.Rows.{Code}
use Rattle.compile_graph.specs.Component.{component_states}
use Rattle.compile_graph.specs.Splitting.{crowded}
use Rattle.compile_job.specs.Jobs.{Job, fit, held_job, held_run_length}
use Rattle.compile.specs.Compile.{ways, graph_of, weights_of, component_of, compile}
use Rattle.sentences.specs.Sentences.{said}
use Rattle.view_refusals.specs.Phrases.{refusal_line}
use Rattle.trace_splits.specs.SplitText.{split_text}
use Rattle.trace_stages.specs.StageText.{weights_line, component_line}
use Rattle.trace_stages.specs.FailText.{fail_line}

-- weights, component, and, if it weighs from 1 to 128 and has at most 2,048 edges, all that comes of it
unfoldable pub stages : Job → List ℕ
stages j =
    let c = component_of j in
    weights_line (weights_of j)
    ++ (if eqb (sum c.weights) 0 then [] else
    component_line (component_states (weights_of j) (graph_of j)) (sum c.weights)
    ++ (if ltb 128 (sum c.weights) || crowded c then [] else split_text j.q (ways j) c))

-- "window of memory 0 and lookahead 1"
abbrev pub window_line : ℕ → ℕ → List ℕ
window_line m a = said "window of memory # and lookahead #\n" (m ∷ a ∷ [])

-- the last line: the window, or the refusal
abbrev pub ending : Outcome Code → List ℕ
ending (done c) = window_line c.window.memory c.window.lookahead
ending (refused r) = refusal_line r

-- the steps, and then what compiling the job comes to
unfoldable pub traced : Job → List ℕ
traced j = stages j ++ ending (compile j)

-- the weights that come with the job, why they fail, and "17 for weights that fail"
unfoldable pub failing : Job → List ℕ
failing j = weights_line (weights_of j) ++ fail_line (ways j) j.cap (graph_of j) (weights_of j) ++ refusal_line
    BadWeights

-- the trace of a job, its weights not yet checked, or the refusal of its bytes
abbrev pub tracing : Outcome Job → List ℕ
tracing (done j) = if fit j j.choice then traced j else failing j
tracing (refused r) = refusal_line r

-- the trace of a job's bytes
unfoldable pub traced_job : List ℕ → List ℕ
traced_job xs = tracing (held_job xs)

-- the trace of a run-length job's bytes
unfoldable pub traced_run_length : List ℕ → List ℕ
traced_run_length xs = tracing (held_run_length xs)
