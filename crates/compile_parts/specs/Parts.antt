-- What the steps of a split do to the edges of a graph.
-- In order: source_after, Moved; entering, Doubled.
-- Assumes nothing.
use Rattle.std.specs.Prelude.{if◌then◌else◌, ◌≡◌, not, ◌&&◌, List, map, ℕ, ◌≤◌, eqb, length}
use Rattle.laws.specs.Lists.{filter, elem}
use Rattle.compile_graph.specs.declared.Graph.{Graph}
use Rattle.compile_graph.specs.Arcs.{Arc, enters}
use Rattle.compile_graph.specs.Splitting.{moved, doubled}
use Rattle.compile_graph.specs.Value.{arcs_in}

-- the source x of an edge with the key k, or the new state, if x is s and k is not among K
abbrev pub source_after : ℕ → ℕ → List ℕ → ℕ → ℕ → ℕ
source_after s new K x k = if eqb x s && not (elem k K) then new else x

-- r is g, but "a new last state takes all other edges of s"
pub record Moved (g : Graph) (s : ℕ) (keep : List Arc) (r : Graph) : Type 0 where
  pub arcs : arcs_in r ≡ map (moved s g.states keep) (arcs_in g)
  pub edges : r.edges ≡ g.edges
  pub states : r.states ≡ g.states
  pub weight : r.weight ≡ g.weight

-- how many edges lead into s
abbrev pub entering : List Arc → ℕ → ℕ
entering l s = length (filter (enters s) l)

-- r is g, but "every edge into s becomes two, to s and to the new state"
pub record Doubled (g : Graph) (s : ℕ) (r : Graph) : Type 0 where
  pub arcs : arcs_in r ≡ doubled s g.states (arcs_in g)
  pub room : r.edges ≤ 2048
  pub states : r.states ≡ g.states
  pub weight : r.weight ≡ g.weight
