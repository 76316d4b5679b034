-- What the parts of making the table answer.
-- In order: Finished; Open; entered_by; rank; row_edge, rows_of_table, the rows of a value of `TableRows`; TableIn;
-- RowPut.
-- Assumes nothing.
use Rattle.std.specs.Prelude.{◌≡◌, Bool, true, false, not, ◌&&◌, List, map, ℕ, ◌+◌, ◌*◌, ◌/◌, ◌%◌, ◌≤◌, ◌<◌, eqb}
use Rattle.std.specs.Prelude.{length, get_or, Option, Some, None}
use Rattle.laws.specs.Lists.{range, filter}
use Rattle.laws.specs.Sets.{member}
use Rattle.table.specs.Rows.{Edge, edge, Rows}
use Rattle.compile_graph.specs.declared.Graph.{Graph}
use Rattle.compile_table.specs.declared.finish_table.TableRows.{TableRows}
use Rattle.compile_graph.specs.Arcs.{out}
use Rattle.compile_graph.specs.Value.{arcs_in, work_in, Fits}
use Rattle.compile_table.specs.TableOf.{table_of}

-- a graph of which every state has n edges, as splitting leaves it
pub record Finished (n : ℕ) (g : Graph) : Type 0 where
  pub fits : Fits g
  pub some : 0 < g.states
  pub few : n ≤ 16
  pub full : (s : ℕ) → s < g.states → n ≤ length (out (arcs_in g) s)

-- r is the lowest of k states in the set that is not done, or none
abbrev pub Open : List Bool → List Bool → ℕ → Option ℕ → Type 0
Open S D k None = (s : ℕ) → s < k → (member S s && not (member D s)) ≡ false
Open S D k (Some r) = (r < k) × ((member S r && not (member D r)) ≡ true)
    × ((s : ℕ) → s < r → (member S s && not (member D s)) ≡ false)

-- the edge with this key leads to x
abbrev pub entered_by : ℕ → ℕ → Bool
entered_by x k = eqb (k % 128) x

-- how many states of the set are below t
unfoldable pub rank : List Bool → ℕ → ℕ
rank S t = length (filter (member S) (range t))

-- the edge of state s that carries d
abbrev pub row_edge : TableRows → ℕ → ℕ → Edge
row_edge r s d = edge (get_or r.word (s * 16 + d) 0) (get_or r.next (s * 16 + d) 0)

-- the n edges of each state, as a table's arrays hold them
abbrev pub rows_of_table : ℕ → TableRows → Rows
rows_of_table n r = map (λ s. map (row_edge r s) (range n)) (range r.states)

-- r holds the table of the graph
pub record TableIn (n : ℕ) (g : Graph) (r : TableRows) : Type 0 where
  pub few : r.states ≤ 128
  pub rows : rows_of_table n r ≡ table_of n (work_in g)

-- r is t with the first d edges of state i by keys, and their next states numbered; places of lower states are as
-- they were
pub record RowPut (t : TableRows) (keys index : List ℕ) (i d : ℕ) (r : TableRows) : Type 0 where
  pub states : r.states ≡ t.states
  pub long_w : length r.word ≡ 2048
  pub long_n : length r.next ≡ 2048
  pub word : (e : ℕ) → e < d → get_or r.word (i * 16 + e) 0 ≡ get_or keys e 0 / 128
  pub next : (e : ℕ) → e < d → get_or r.next (i * 16 + e) 0 ≡ get_or index (get_or keys e 0 % 128) 0
  pub kept_w : (x : ℕ) → x < i * 16 → get_or r.word x 0 ≡ get_or t.word x 0
  pub kept_n : (x : ℕ) → x < i * 16 → get_or r.next x 0 ≡ get_or t.next x 0
