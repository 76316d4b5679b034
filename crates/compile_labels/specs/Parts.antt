-- What the parts of giving the data answer, on the arrays that hold a table.
-- In order: row_at, the entries of a state in a column of the table; gave_at, the data that it gave a word; Worded, a
-- column that holds a table's words; Home, Homes, for each word the lowest state that has it; noted, its home when a
-- state is added; served, the second pass; Reordered, a column with the entries of one state in another order.
-- Assumes nothing.
use Rattle.std.specs.Prelude.{if◌then◌else◌, ◌≡◌, true, false, ◌&&◌, ◌⊎◌, List, [], ◌∷◌, ◌++◌, ℕ, ◌+◌, ◌*◌, ◌≤◌, ◌<◌}
use Rattle.std.specs.Prelude.{eqb, ltb, length}
use Rattle.std.specs.Prelude.{get_or, take, drop}
use Rattle.laws.specs.Lists.{range, first, elem, index_of}
use Rattle.table.specs.Rows.{Rows, edges, at, has_word}
use Rattle.table.specs.Paths.{Full}
use Rattle.compile_labels.specs.Labels.{gave, free}

-- the 16 entries of state s in a column of a table
abbrev pub row_at : List ℕ → ℕ → List ℕ
row_at column s = take 16 (drop (s * 16) column)

-- the data, rising, that state h of a column gave the word w; none where h is no state
abbrev pub gave_at : ℕ → List ℕ → ℕ → ℕ → List ℕ
gave_at n column h w = if ltb h 128 then gave n (row_at column h) w else []

-- the column holds the words of a table with n edges a state
pub record Worded (n : ℕ) (t : Rows) (column : List ℕ) : Type 0 where
  pub few : length t ≤ 128
  pub full : Full n t
  pub words : (s d : ℕ) → s < length t → d < n → (at t s d).word ≡ get_or column (s * 16 + d) 0

-- h is the lowest state of the table that has the word w, or 128 where none has it
abbrev pub Home : Rows → ℕ → ℕ → Type 0
Home t w h =
    ((h < length t) × (has_word w (edges t h) ≡ true) × ((s : ℕ) → s < h → has_word w (edges t s) ≡ false))
    ⊎ ((h ≡ 128) × ((s : ℕ) → s < length t → has_word w (edges t s) ≡ false))

-- for each word the lowest state of the table that has it, or 128
abbrev pub Homes : Rows → List ℕ → Type 0
Homes t home = (w : ℕ) → w < 256 → Home t w (get_or home w 0)

-- the home of the word w when state i, whose edges have the words ws, is added
abbrev pub noted : List ℕ → ℕ → List ℕ → ℕ → ℕ
noted ws i home w = let h = get_or home w 0 in if eqb h 128 && elem w ws then i else h

-- the second pass in place: edges before have ds, this and later ones asked for xs, and an edge with no datum takes the
-- lowest that no edge has
abbrev pub served : ℕ → List ℕ → List ℕ → List ℕ
served n ds [] = ds
served n ds (x ∷ xs) =
    let d = if ltb x n then x else first (free (ds ++ x ∷ xs)) n (range n) in
    served n (ds ++ d ∷ []) xs

-- entry d of state i is now the one whose edge has the datum d, for the n edges of that state; all others stay
pub record Reordered (n i : ℕ) (ds old column : List ℕ) : Type 0 where
  pub long : length column ≡ 2048
  pub moved : (d : ℕ) → d < n → get_or column (i * 16 + d) 0 ≡ get_or old (i * 16 + index_of d ds) 0
  pub kept : (x : ℕ) → (x < i * 16) ⊎ (i * 16 + n ≤ x) → get_or column x 0 ≡ get_or old x 0
