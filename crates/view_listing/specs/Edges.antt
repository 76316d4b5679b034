-- Lines of the edges of a code, one an edge, state by state; and the same as the code puts them.
-- In order: row_edges, all_edges; Line; edge_line, row_lines, edge_lines; line_at, lines_to.
-- Assumes nothing.
use Rattle.std.specs.Prelude.{List, map, ℕ, ◌/◌, ◌%◌, ◌^◌, length}
use Rattle.laws.specs.Lists.{range, concat}
use Rattle.table.specs.declared.Table.{Table}
use Rattle.table.specs.Rows.{edges, at, Code}
use Rattle.table.specs.Value.{word_at, next_at}

-- a text for each edge of state s
abbrev pub row_edges : (ℕ → ℕ → List ℕ) → Code → ℕ → List ℕ
row_edges f c s = concat (map (f s) (range (length (edges c.table s))))

-- a text for each edge, by its state and its datum
abbrev pub all_edges : (ℕ → ℕ → List ℕ) → Code → List ℕ
all_edges f c = concat (map (row_edges f c) (range (length c.table)))

-- how an edge is put as text: by q, its state, its datum, its word and its next state
abbrev pub Line : Type 0
Line = ℕ → ℕ → ℕ → ℕ → ℕ → List ℕ

-- the edge of state s that carries datum d
abbrev pub edge_line : Line → Code → ℕ → ℕ → List ℕ
edge_line l c s d = l c.q s d (at c.table s d).word (at c.table s d).next

-- the edges of state s
abbrev pub row_lines : Line → Code → ℕ → List ℕ
row_lines l c s = row_edges (edge_line l c) c s

-- the edges of all states
abbrev pub edge_lines : Line → Code → List ℕ
edge_lines l c = all_edges (edge_line l c) c

-- edge e of a table by value, counted over all states
abbrev pub line_at : Line → Table → ℕ → List ℕ
line_at l t e =
    let s = e / 2 ^ t.p in
    let d = e % 2 ^ t.p in
    l t.q s d (word_at t s d) (next_at t s d)

-- the first e edges
unfoldable pub lines_to : Line → Table → ℕ → List ℕ
lines_to l t e = concat (map (line_at l t) (range e))
