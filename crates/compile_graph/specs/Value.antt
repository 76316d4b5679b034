-- The graph in work that a value of the struct `Graph` stands for.
-- In order: arc_at, arcs_in; weight_at, weights_in; work_in; Fits, what it keeps to.
-- Assumes nothing.
use Rattle.std.specs.Prelude.{List, map, ℕ, ◌≤◌, ◌<◌, get_or}
use Rattle.laws.specs.Lists.{range}
use Rattle.compile_graph.specs.declared.Graph.{Graph}
use Rattle.compile_graph.specs.Arcs.{Arc, arc, Work}

-- edge i
abbrev pub arc_at : Graph → ℕ → Arc
arc_at g i = arc (get_or g.source i 0) (get_or g.word i 0) (get_or g.target i 0)

-- all edges
abbrev pub arcs_in : Graph → List Arc
arcs_in g = map (arc_at g) (range g.edges)

-- the weight of state s
abbrev pub weight_at : Graph → ℕ → ℕ
weight_at g s = get_or g.weight s 0

-- all weights
abbrev pub weights_in : Graph → List ℕ
weights_in g = map (weight_at g) (range g.states)

-- the graph in work
abbrev pub work_in : Graph → Work
work_in g = record { weights = weights_in g; arcs = arcs_in g }

-- a graph that fits its arrays, with weights up to 128, words below 256 and edges among its states: every graph that
-- is made does
pub record Fits (g : Graph) : Type 0 where
  pub few : g.states ≤ 128
  pub room : g.edges ≤ 2048
  pub light : (s : ℕ) → s < g.states → get_or g.weight s 0 ≤ 128
  pub word : (i : ℕ) → i < g.edges → get_or g.word i 0 < 256
  pub source : (i : ℕ) → i < g.edges → get_or g.source i 0 < g.states
  pub target : (i : ℕ) → i < g.edges → get_or g.target i 0 < g.states
