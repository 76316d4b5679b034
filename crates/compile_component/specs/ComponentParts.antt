-- What the parts of building the component's graph answer.
-- In order: place_of, row_keeps, row_arc, row_arcs, row_of_state; Extended, Added; FoundIn, the component by value.
-- Assumes nothing.
use Rattle.std.specs.Prelude.{if◌then◌else◌, ◌≡◌, Bool, List, [], ◌++◌, map, ℕ, ◌+◌, ltb, length, get_or}
use Rattle.std.specs.Prelude.{Option, is_none, IfSome}
use Rattle.laws.specs.Lists.{range, filter, sum}
use Rattle.compile_graph.specs.declared.Graph.{Graph}
use Rattle.compile_component.specs.declared.component_graph.ComponentAnswer.{ComponentAnswer}
use Rattle.compile_graph.specs.Arcs.{Arc, arc}
use Rattle.compile_graph.specs.Splitting.{crowded}
use Rattle.compile_graph.specs.Component.{component_states, component_graph}
use Rattle.compile_graph.specs.Value.{arcs_in, work_in, Fits}
use Rattle.compile_weights.specs.PowerTable.{entry_at}

-- the number of state t in the component, 16 for none
abbrev pub place_of : List ℕ → ℕ → ℕ
place_of I t = if ltb t 16 then get_or I t 0 else 16

-- the word w leads from s into the component
abbrev pub row_keeps : List ℕ → List ℕ → ℕ → ℕ → Bool
row_keeps P I s w = ltb (place_of I (entry_at P s w)) 16

-- the word w from s, between the numbers of its states
abbrev pub row_arc : List ℕ → List ℕ → ℕ → ℕ → Arc
row_arc P I s w = arc (get_or I s 0) w (place_of I (entry_at P s w))

-- the words from s that lead into the component
abbrev pub row_arcs : List ℕ → List ℕ → ℕ → ℕ → List Arc
row_arcs P I s words = map (row_arc P I s) (filter (row_keeps P I s) (range words))

-- the same, where s is in the component itself
abbrev pub row_of_state : List ℕ → ℕ → List ℕ → ℕ → List Arc
row_of_state P words I s = if ltb (get_or I s 0) 16 then row_arcs P I s words else []

-- g is h with the edges l after its own
pub record Extended (h : Graph) (l : List Arc) (g : Graph) : Type 0 where
  pub arcs : arcs_in g ≡ arcs_in h ++ l
  pub states : g.states ≡ h.states
  pub weight : g.weight ≡ h.weight

-- r is h with the edges l after its own, or none where there would be "over 2,048 edges"
pub record Added (h : Graph) (l : List Arc) (r : Option Graph) : Type 0 where
  pub crowds : is_none r ≡ ltb 2048 (h.edges + length l)
  pub extends : IfSome r (Extended h l)

-- the component by value: its graph with the weights, or none where it has over 2,048 edges; its weights' sum; its
-- start
pub record FoundIn (v : List ℕ) (g : List Arc) (r : ComponentAnswer) : Type 0 where
  pub total : r.total ≡ sum (component_graph v g).weights
  pub start : r.start ≡ get_or (component_states v g) 0 0
  pub crowds : is_none r.graph ≡ crowded (component_graph v g)
  pub found : IfSome r.graph (λ h. (work_in h ≡ component_graph v g) × Fits h)
