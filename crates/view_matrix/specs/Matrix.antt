-- A code of many states as `draw` prints it: a matrix of states by words, as SVG. A cell has a fixed size and a fixed
-- place for each datum, four in a row, where the datum stands with its next state.
-- In order: column_x, row_y; place, column_text; state_at, row_text; entry, cell; in_row; sizes, heading, axes,
-- matrix.
-- Assumes nothing.
use Rattle.std.specs.Prelude.{List, [], ◌∷◌, ◌++◌, map, ℕ, ◌+◌, ◌*◌, ◌/◌, ◌%◌, ◌^◌, length}
use Rattle.laws.specs.Lists.{range, concat}
use Rattle.table.specs.Rows.{Code}
use Rattle.text.specs.Texts.{bytes}
use Rattle.text.specs.Words.{binary}
use Rattle.sentences.specs.Sentences.{sentence, said}
use Rattle.view_listing.specs.Edges.{Line, edge_lines}

-- where the column of a word begins
unfoldable pub column_x : ℕ → ℕ
column_x w = 48 + w * 168

-- where the row of a state begins, with n data a state
unfoldable pub row_y : ℕ → ℕ → ℕ
row_y n s = 60 + s * (n * 3 + 12)

-- a text at x and y, up to its words
abbrev pub place : ℕ → ℕ → List ℕ
place x y = said "<text x=\"#\" y=\"#\">" (x ∷ y ∷ [])

-- the word w of q bits above its column
unfoldable pub column_text : ℕ → ℕ → List ℕ
column_text q w = place (column_x w) 40 ++ binary q w ++ bytes "</text>\n"

-- the state s at y
abbrev pub state_at : ℕ → ℕ → List ℕ
state_at y s = said "<text x=\"4\" y=\"#\">#</text>\n" (y ∷ s ∷ [])

-- the state s in front of its row
abbrev pub row_text : ℕ → ℕ → List ℕ
row_text n s = state_at (row_y n s) s

-- the datum d with the next state t at x and y: `3/17`
abbrev pub entry : ℕ → ℕ → ℕ → ℕ → List ℕ
entry x y d t = said "<text x=\"#\" y=\"#\">#/#</text>\n" (x ∷ y ∷ d ∷ t ∷ [])

-- the edge of state s with the datum d and the word w to state t, at the place of d in the cell of s and w
abbrev pub cell : ℕ → Line
cell n q s d w t = entry (column_x w + d % 4 * 40) (row_y n s + d / 4 * 12) d t

-- the texts of the numbers below n
unfoldable pub in_row : (ℕ → List ℕ) → ℕ → List ℕ
in_row f n = concat (map f (range n))

-- the size of the matrix, and why it is drawn
unfoldable pub sizes : ℕ → ℕ → ℕ → List ℕ
sizes x y states =
    sentence
    (bytes "<svg xmlns=\"http://www.w3.org/2000/svg\" font-family=\"monospace\" font-size=\"10\" "
    ++ bytes "width=\"#\" height=\"#\">\n<rect width=\"100%\" height=\"100%\" fill=\"white\"/>\n"
    ++ bytes "<text x=\"4\" y=\"16\">A picture of # states is not readable. "
    ++ bytes "Rows are states, columns are words, entries are datum/next state.</text>\n") (x ∷ y ∷ states ∷ [])

-- the size, and all words of q bits above their columns
unfoldable pub heading : ℕ → ℕ → ℕ → List ℕ
heading q n states = sizes (column_x (2 ^ q)) (row_y n states) states ++ in_row (column_text q) (2 ^ q)

-- all that stands around the entries: the heading, and all states in front of their rows
unfoldable pub axes : ℕ → ℕ → ℕ → List ℕ
axes q n states = heading q n states ++ in_row (row_text n) states

-- the matrix of a code
unfoldable pub matrix : Code → List ℕ
matrix c =
    axes c.q (2 ^ c.p) (length c.table) ++ edge_lines (cell (2 ^ c.p)) c ++ bytes "</svg>\n"
