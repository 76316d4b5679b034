-- "Component" (in the field: an irreducible sink component of the graph on the states of weight above 0).
-- In order: leads_into, reaches_into, with_sources, reaching, reachings, reaches; both, within, renamed, renumbered;
-- returns, returning, component; weighs, live; component_states, weight_of, component_graph.
-- Assumes nothing.
use Rattle.std.specs.Prelude.{Bool, not, ◌&&◌, ◌||◌, List, [], map, ℕ, ltb, eqb, length, get_or}
use Rattle.laws.specs.Lists.{range, filter, all, any, first, iterate, elem, index_of}
use Rattle.laws.specs.Sets.{member}
use Rattle.compile_graph.specs.Arcs.{Arc, arc, Work}

-- the edge leads from s into the set S
abbrev pub leads_into : List Bool → ℕ → Arc → Bool
leads_into S s e = eqb e.source s && member S e.target

-- s is in S or has an edge into it
abbrev pub reaches_into : List Arc → List Bool → ℕ → Bool
reaches_into g S s = member S s || any (leads_into S s) g

-- the states of S and those with an edge into it
abbrev pub with_sources : List Arc → List Bool → List Bool
with_sources g S = map (reaches_into g S) (range (length S))

-- of the K states, those that can reach t
abbrev pub reaching : ℕ → List Arc → ℕ → List Bool
reaching K g t = iterate (with_sources g) K (map (eqb t) (range K))

-- for each state those that can reach it
abbrev pub reachings : ℕ → List Arc → List (List Bool)
reachings K g = map (reaching K g) (range K)

-- s can reach t
abbrev pub reaches : List (List Bool) → ℕ → ℕ → Bool
reaches R s t = member (get_or R t []) s

-- the edge leads from a state of S to one
abbrev pub both : List ℕ → Arc → Bool
both S e = elem e.source S && elem e.target S

-- "Drop states [..] and edges to them": the edges among the states of S
abbrev pub within : List ℕ → List Arc → List Arc
within S g = filter (both S) g

-- the edge between the places in S, which is in rising order, of its states
abbrev pub renamed : List ℕ → Arc → Arc
renamed S e = arc (index_of e.source S) e.word (index_of e.target S)

-- "Renumber in rising order": the edges among the states of S, renumbered
abbrev pub renumbered : List ℕ → List Arc → List Arc
renumbered S g = map (renamed S) (within S g)

-- if s reaches t, then t reaches s back
abbrev pub returns : (ℕ → ℕ → Bool) → ℕ → ℕ → Bool
returns reach s t = not (reach s t) || reach t s

-- "every state reachable from it can reach back"
abbrev pub returning : List (List Bool) → List ℕ → ℕ → Bool
returning R L s = all (returns (reaches R) s) L

-- "the lowest state that every state reachable from it can reach back, and all states reachable from it"
abbrev pub component : ℕ → List ℕ → List Arc → List ℕ
component K L g =
    let R = reachings K g in
    let s = first (returning R L) 0 L in
    filter (reaches R s) L

-- the state has a weight above 0
abbrev pub weighs : List ℕ → ℕ → Bool
weighs v s = ltb 0 (get_or v s 0)

-- the states of weight above 0, in rising order
abbrev pub live : List ℕ → List ℕ
live v = filter (weighs v) (range (length v))

-- the states of the component, in rising order: "That lowest state is the start"
unfoldable pub component_states : List ℕ → List Arc → List ℕ
component_states v g = component (length v) (live v) (within (live v) g)

-- the weight of state s
abbrev pub weight_of : List ℕ → ℕ → ℕ
weight_of v s = get_or v s 0

-- the component, renumbered, with its weights: the graph in work at the start
unfoldable pub component_graph : List ℕ → List Arc → Work
component_graph v g =
    let C = component_states v g in
    record { weights = map (weight_of v) C; arcs = renumbered C g }
