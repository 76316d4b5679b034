-- The data that the edges of a table carry: "State 0 stays. In each later state, in order, an edge first takes the
-- lowest datum still free there that the lowest earlier state with its word gave that word; edges with no such datum
-- then take the free data, rising."
-- In order: carries, gave, given, what an earlier state gave; free; asked, the first pass over a state's edges;
-- answered, the second; data_of, the data of a state's edges; bearer, relabelled_row, relabelled; Rearranged, the same
-- edges in another order.
-- Assumes nothing.
use Rattle.std.specs.Prelude.{if◌then◌else◌, ◌≡◌, Bool, not, List, [], ◌∷◌, map, ℕ, ◌<◌, eqb, ltb, length, get_or, take}
use Rattle.std.specs.Prelude.{drop}
use Rattle.laws.specs.Lists.{range, filter, first, extend, elem, index_of}
use Rattle.laws.specs.Sums.{Below, Once}
use Rattle.table.specs.Rows.{Edge, edge, Rows, words_of, has_word}

-- datum d of these words goes with the word w
abbrev pub carries : List ℕ → ℕ → ℕ → Bool
carries ws w d = eqb (get_or ws d 0) w

-- the data below n, rising, that a state whose edges have the words ws gave the word w
abbrev pub gave : ℕ → List ℕ → ℕ → List ℕ
gave n ws w = filter (carries ws w) (range n)

-- the data, rising, "that the lowest earlier state with its word gave that word"
abbrev pub given : Rows → ℕ → List ℕ
given earlier w = let ws = words_of (first (has_word w) [] earlier) in gave (length ws) ws w

-- "still free": no edge has the datum d
abbrev pub free : List ℕ → ℕ → Bool
free ds d = not (elem d ds)

-- what an edge with the word w "first takes" when those before it have ds; n, which is no datum, for "no such datum"
abbrev pub asked : ℕ → Rows → List ℕ → ℕ → ℕ
asked n earlier ds w = first (free ds) n (given earlier w)

-- "edges with no such datum then take the free data, rising": the edges asked for xs, and `left` are the data left
abbrev pub answered : ℕ → List ℕ → List ℕ → List ℕ
answered n left [] = []
answered n left (x ∷ xs) =
    let has = ltb x n in
    (if has then x else get_or left 0 n) ∷ answered n (if has then left else drop 1 left) xs

-- the data of a state's edges, which have the words ws
unfoldable pub data_of : ℕ → Rows → List ℕ → List ℕ
data_of n earlier ws =
    let xs = extend (asked n earlier) [] ws in
    answered n (filter (free xs) (range n)) xs

-- the edge that has the datum d when the edges es have ds
abbrev pub bearer : List Edge → List ℕ → ℕ → Edge
bearer es ds d = get_or es (index_of d ds) (edge 0 0)

-- the row of a "later state"
abbrev pub relabelled_row : ℕ → Rows → List Edge → List Edge
relabelled_row n earlier es = map (bearer es (data_of n earlier (words_of es))) (range n)

-- "State 0 stays. In each later state, in order": the table with its data given anew
unfoldable pub relabelled : ℕ → Rows → Rows
relabelled n t = extend (relabelled_row n) (take 1 t) (drop 1 t)

-- fs has the n edges of es, each once: edge k of es stands at its place in fs
pub record Rearranged (n : ℕ) (es fs : List Edge) : Type 0 where
  pub places : List ℕ
  pub many : length places ≡ n
  pub below : Below n places
  pub once : Once places
  pub long : length fs ≡ n
  pub moved : (k : ℕ) → k < n → get_or fs (get_or places k 0) (edge 0 0) ≡ get_or es k (edge 0 0)
