-- The listing: "it prints all of this (p, q, states, m, a; then state, datum, word in binary, next)".
-- In order: heading, entry; listing.
-- Assumes nothing.
use Rattle.std.specs.Prelude.{List, [], ◌∷◌, ◌++◌, ℕ, length}
use Rattle.table.specs.Rows.{Code}
use Rattle.text.specs.Words.{binary}
use Rattle.sentences.specs.Sentences.{said}
use Rattle.view_listing.specs.Edges.{edge_lines}

-- "p, q, states, m, a"
abbrev pub heading : ℕ → ℕ → ℕ → ℕ → ℕ → List ℕ
heading p q states m a = said "# # # # #\n" (p ∷ q ∷ states ∷ m ∷ a ∷ [])

-- "state, datum, word in binary, next"
unfoldable pub entry : ℕ → ℕ → ℕ → ℕ → ℕ → List ℕ
entry q state datum word next = said "# # " (state ∷ datum ∷ []) ++ binary q word ++ said " #\n" (next ∷ [])

-- the listing of a code
unfoldable pub listing : Code → List ℕ
listing c =
    heading c.p c.q (length c.table) c.window.memory c.window.lookahead ++ edge_lines entry c
