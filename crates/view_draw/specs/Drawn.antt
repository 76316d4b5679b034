-- A code as `draw` prints it: the state diagram as a Graphviz digraph, one arrow for all edges between two states,
-- or a matrix.
-- In order: joined, opens; other, others; arrow_head, arrow_text, arrow, arrow_of; opening, diagram; table_arrow,
-- arrows_to, of a table by value; drawn; draw_text.
-- Assumes nothing.
use Rattle.std.specs.Prelude.{if◌then◌else◌, Bool, not, ◌&&◌, List, [], ◌∷◌, ◌++◌, map, ℕ, ◌/◌, ◌%◌, ◌^◌, eqb, ltb, leb}
use Rattle.std.specs.Prelude.{length}
use Rattle.laws.specs.Lists.{range, concat}
use Rattle.table.specs.Marks.{some}
use Rattle.table.specs.declared.Table.{Table}
use Rattle.table.specs.Rows.{edges, at, Code}
use Rattle.table.specs.Value.{word_at, next_at, code_in, ready}
use Rattle.text.specs.Texts.{bytes}
use Rattle.text.specs.Words.{binary}
use Rattle.sentences.specs.Sentences.{said}
use Rattle.view_listing.specs.Edges.{all_edges}
use Rattle.view_matrix.specs.Matrix.{matrix}

-- the data d and j of a state lead to one state
abbrev pub joined : (ℕ → ℕ) → ℕ → ℕ → Bool
joined next d j = eqb (next j) (next d)

-- no datum below d leads to the same state
unfoldable pub opens : (ℕ → ℕ) → ℕ → Bool
opens next d = not (some (joined next d) d)

-- what j adds to the label that d opens, if it comes after d and leads to the same state: `, 3/110`
unfoldable pub other : ℕ → (ℕ → ℕ) → (ℕ → ℕ) → ℕ → ℕ → List ℕ
other q word next d j = if ltb d j && joined next d j then said ", #/" (j ∷ []) ++ binary q (word j) else []

-- what the data below n add to it
unfoldable pub others : ℕ → (ℕ → ℕ) → (ℕ → ℕ) → ℕ → ℕ → List ℕ
others q word next d n = concat (map (other q word next d) (range n))

-- the arrow from s to t up to its first datum d: `  0 -> 2 [label="1/`
abbrev pub arrow_head : ℕ → ℕ → ℕ → List ℕ
arrow_head s t d = said "  # -> # [label=\"#/" (s ∷ t ∷ d ∷ [])

-- the arrow of state s for all n data that lead where d leads, which is the first: `  0 -> 2 [label="1/011, 3/110"];`
abbrev pub arrow_text : ℕ → ℕ → (ℕ → ℕ) → (ℕ → ℕ) → ℕ → ℕ → List ℕ
arrow_text q n word next s d =
    arrow_head s (next d) d ++ binary q (word d) ++ others q word next d n ++ bytes "\"];\n"

-- the arrow of state s where d is the first of its data
unfoldable pub arrow : ℕ → ℕ → (ℕ → ℕ) → (ℕ → ℕ) → ℕ → ℕ → List ℕ
arrow q n word next s d = if opens next d then arrow_text q n word next s d else []

-- the arrow of state s at datum d
abbrev pub arrow_of : Code → ℕ → ℕ → List ℕ
arrow_of c s d =
    arrow c.q (length (edges c.table s)) (λ j. (at c.table s j).word) (λ j. (at c.table s j).next) s d

-- the lines in front of the edges; state 0 starts
unfoldable pub opening : List ℕ
opening = bytes "digraph code {\n  rankdir=LR;\n  node [shape=circle];\n  start [shape=point];\n  start -> 0;\n"

-- the diagram of a code
unfoldable pub diagram : Code → List ℕ
diagram c = opening ++ all_edges (arrow_of c) c ++ bytes "}\n"

-- the arrow of state s at datum d of a table by value
abbrev pub table_arrow : Table → ℕ → ℕ → List ℕ
table_arrow t s d = arrow t.q (2 ^ t.p) (word_at t s) (next_at t s) s d

-- the arrows of its first e edges, counted over all states
unfoldable pub arrows_to : Table → ℕ → List ℕ
arrows_to t e = concat (map (λ i. table_arrow t (i / 2 ^ t.p) (i % 2 ^ t.p)) (range e))

-- what `draw` prints of a code: its diagram, or its matrix where it has more than 24 states
unfoldable pub drawn : Code → List ℕ
drawn c = if leb (length c.table) 24 then diagram c else matrix c

-- what `draw` prints of a table by value; nothing where no record gives it
unfoldable pub draw_text : Table → List ℕ
draw_text t = if ready t then drawn (code_in t) else []
