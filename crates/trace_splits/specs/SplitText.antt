-- The lines of the splits of a graph: the graph, one line a split, the graph that they end with, and its table.
-- In order: graph_line; edge_text, arc_text, kept_text, part_line, split_line, split_lines; end_lines, end_text;
-- split_text.
-- Assumes nothing.
use Rattle.std.specs.Prelude.{if◌then◌else◌, true, false, List, [], ◌∷◌, ◌++◌, map, ℕ, zero, suc, ◌-◌, ◌/◌, length}
use Rattle.std.specs.Prelude.{get_or}
use Rattle.laws.specs.Lists.{concat, sum}
use Rattle.text.specs.Words.{binary}
use Rattle.sentences.specs.Sentences.{said}
use Rattle.compile_graph.specs.Arcs.{Arc, Work}
use Rattle.compile_graph.specs.Weights.{total}
use Rattle.compile_graph.specs.Splitting.{chosen, kept, split, goes_on, crowded, split_all}
use Rattle.compile_table.specs.TableOf.{table_of}

-- "graph of 2 states and 8 edges"
unfoldable pub graph_line : ℕ → ℕ → List ℕ
graph_line states edges = said "graph of # state~ and # edge~\n" (states ∷ states ∷ edges ∷ edges ∷ [])

-- an edge by its word and its target: "011/1 "
unfoldable pub edge_text : ℕ → ℕ → ℕ → List ℕ
edge_text q w t = binary q w ++ said "/# " (t ∷ [])

-- the same of an edge of the graph in work
abbrev pub arc_text : ℕ → Arc → List ℕ
arc_text q e = edge_text q e.word e.target

-- state s of weight M, and the edges that it keeps
unfoldable pub kept_text : ℕ → ℕ → ℕ → List Arc → List ℕ
kept_text q s M keep = said "split state # of weight #: it keeps " (s ∷ M ∷ []) ++ concat (map (arc_text q) keep)

-- state s of weight M is split: it keeps these edges and weight w, and a new state takes the others and weight M − w
unfoldable pub part_line : ℕ → ℕ → ℕ → List Arc → ℕ → ℕ → List ℕ
part_line q s M keep w new =
    kept_text q s M keep
    ++ said "with weight #, new state # takes the other edges with weight #\n" (w ∷ new ∷ (M - w) ∷ [])

-- the split of the graph in work
unfoldable pub split_line : ℕ → ℕ → Work → List ℕ
split_line q n x =
    let s = chosen x.weights x.arcs in
    let keep = kept n x.weights x.arcs s in
    part_line q s (get_or x.weights s 0) keep (total x.weights keep / n) (length x.weights)

-- up to k splits
unfoldable pub split_lines : ℕ → ℕ → ℕ → Work → List ℕ
split_lines zero q n x = []
split_lines (suc k) q n x = elim (goes_on n x) [ true ↦ split_line q n x ++ split_lines k q n (split n x) | false ↦ [] ]

-- "finished with 3 states and 13 edges" and "table of 3 states"
unfoldable pub end_lines : ℕ → ℕ → ℕ → List ℕ
end_lines states edges rows =
    said "finished with # state~ and # edge~\ntable of # state~\n"
    (states ∷ states ∷ edges ∷ edges ∷ rows ∷ rows ∷ [])

-- the graph that splitting ends with, and its table, unless it has too many edges
abbrev pub end_text : ℕ → Work → List ℕ
end_text n x =
    if crowded x then [] else end_lines (length x.weights) (length x.arcs) (length (table_of n x))

-- the graph, its splits, and what they end with
unfoldable pub split_text : ℕ → ℕ → Work → List ℕ
split_text q n x =
    graph_line (length x.weights) (length x.arcs) ++ split_lines (sum x.weights) q n x
    ++ end_text n (split_all n x)
