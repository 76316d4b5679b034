-- Sets of at most 16 states, one beside the other in a list of 256 places: place t * 16 + s says whether s can reach
-- t.
-- In order: reach_at, row_of, rows_of; links_into, Linked, edges as such a list; passes_on, one round; live_edge, edges
-- among states of weight above 0; Listed, the states of the component and their numbers.
-- Assumes nothing.
use Rattle.std.specs.Prelude.{if◌then◌else◌, ◌≡◌, Bool, false, ◌&&◌, List, map, ℕ, ◌+◌, ◌*◌, ◌/◌, ◌%◌, ◌≤◌, ◌<◌, ltb}
use Rattle.std.specs.Prelude.{get_or, take}
use Rattle.laws.specs.Lists.{range, any, elem, index_of}
use Rattle.laws.specs.Sets.{member}
use Rattle.compile_reach.specs.declared.reaching.Members.{Members}
use Rattle.compile_graph.specs.Arcs.{Arc}
use Rattle.compile_graph.specs.Component.{leads_into}

-- s can reach t
abbrev pub reach_at : List Bool → ℕ → ℕ → Bool
reach_at M t s = get_or M (t * 16 + s) false

-- the states that can reach t
abbrev pub row_of : List Bool → ℕ → ℕ → List Bool
row_of M k t = map (reach_at M t) (range k)

-- for each of k states those that can reach it
unfoldable pub rows_of : List Bool → ℕ → List (List Bool)
rows_of M k = map (row_of M k) (range k)

-- the edge from s to u, if there is one, leads into S
abbrev pub links_into : List Bool → List Bool → ℕ → ℕ → Bool
links_into E S s u = get_or E (s * 16 + u) false && member S u

-- E has, at s * 16 + u, whether an edge of g leads from s to u
pub record Linked (E : List Bool) (k : ℕ) (g : List Arc) : Type 0 where
  pub links : (S : List Bool) (s : ℕ) → s < k → any (leads_into S s) g ≡ any (links_into E S s) (range k)

-- s has an edge to a state that can reach t
abbrev pub passes_on : List Bool → List Bool → ℕ → ℕ → ℕ → Bool
passes_on E M t s u = get_or E (s * 16 + u) false && reach_at M t u

-- both states have a weight above 0, and words lead from one to the other
abbrev pub live_edge : List ℕ → List ℕ → ℕ → Bool
live_edge A v x = ltb 0 (get_or v (x / 16) 0) && (ltb 0 (get_or v (x % 16) 0) && ltb 0 (get_or A x 0))

-- C in rising order, and for each state its place in C, or 16 where it is not there
pub record Listed (k : ℕ) (C : List ℕ) (r : Members) : Type 0 where
  pub few : r.count ≤ 16
  pub states : take r.count r.state ≡ C
  pub places : (t : ℕ) → t < k → get_or r.index t 0 ≡ (if elem t C then index_of t C else 16)
