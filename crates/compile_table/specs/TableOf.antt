-- "Table. Each state keeps its first n edges in order of word, then target; they carry data 0 to n − 1. States not
-- reachable from the start are removed, the others renumbered in order." The edges stand in that order here; which
-- datum each carries is said in `compile_labels`.
-- In order: row; first_edges, table_states; named, table_row, table_of.
-- Assumes nothing.
use Rattle.std.specs.Prelude.{List, map, ℕ, length, take}
use Rattle.laws.specs.Lists.{range, filter, concat, index_of}
use Rattle.table.specs.Rows.{Edge, edge, Rows}
use Rattle.compile_graph.specs.Arcs.{Arc, Work, out}
use Rattle.compile_graph.specs.Component.{reachings, reaches}
use Rattle.compile_graph.specs.Splitting.{sort}

-- the "first n edges in order of word, then target" of state s
abbrev pub row : ℕ → List Arc → ℕ → List Arc
row n g s = take n (sort (out g s))

-- the first n edges of every state
abbrev pub first_edges : ℕ → Work → List Arc
first_edges n x = concat (map (row n x.arcs) (range (length x.weights)))

-- the states reachable from the start by these edges, in rising order
unfoldable pub table_states : ℕ → Work → List ℕ
table_states n x =
    let K = length x.weights in
    let R = reachings K (first_edges n x) in
    filter (reaches R 0) (range K)

-- the edge of a table whose states are those of S, renumbered in order
abbrev pub named : List ℕ → Arc → Edge
named S e = edge e.word (index_of e.target S)

-- the table's row of state s
abbrev pub table_row : ℕ → Work → List ℕ → ℕ → List Edge
table_row n x S s = map (named S) (row n x.arcs s)

-- the table of a graph that is split to the end
unfoldable pub table_of : ℕ → Work → Rows
table_of n x = let S = table_states n x in map (table_row n x S) S
