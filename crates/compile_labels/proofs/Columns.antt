-- The rows of a table in its columns: the entries of a state read and put in another order.
-- In order: row-entry, length-row, row-filled; worded-rows, words_row, the words of a state; reorder-none,
-- reorder-more; reordered-row, reordered-rows, the table whose columns both have another order.
-- Assumes nothing.
use Rattle.std.proofs.Common.{◌≡◌, ◌⊎◌, ◌+◌, ◌*◌, ◌≤◌, ◌<◌}
use Rattle.laws.proofs.All.{refl, sym, ap, ap₂, ◌∙◌, inl, inr, List, [], map, ℕ, arith}
use Rattle.laws.proofs.All.{dec_lt, T, length, get_or, take, drop, set, length-take, length-take-le, length-drop}
use Rattle.laws.proofs.All.{length-set, get_or-take, get_or-drop, get_or-set_same, get_or-set_other, ext_get_or}
use Rattle.laws.proofs.All.{below_more}
use Rattle.laws.proofs.All.{ℕ_discrete, range, elem, index_of, index-lt, Filled, map-range-at, map-range-same, map-map}
use Rattle.laws.proofs.All.{is-map, min}
use Rattle.table.specs.Rows.{edge, edges, words_of}
use Rattle.table.specs.Edges.{Arrays, arrays, edge_of, row_of, rows_of}
use Rattle.table.proofs.RowsOf.{length-rows, row-at, row-long, edge-at}
use Rattle.compile_labels.specs.Labels.{bearer}
use Rattle.compile_labels.specs.Parts.{row_at, Worded, Reordered}

-- ---- the entries of state s
module _ (column : List ℕ) (s : ℕ) where
  pub row-entry : (d : ℕ) → d < 16 → get_or (row_at column s) d 0 ≡ get_or column (s * 16 + d) 0
  row-entry d h = get_or-take 16 (drop (s * 16) column) d 0 h ∙ get_or-drop (s * 16) column d 0

  pub length-row : length column ≡ 2048 → s < 128 → length (row_at column s) ≡ 16
  length-row l h = length-take-le 16 (drop (s * 16) column) (rw (length-drop (s * 16) column) (omega arith))

  pub row-filled : length column ≡ 2048 → s < 128 → (r : List ℕ)
      → Filled 0 (λ d. get_or column (s * 16 + d) 0) 16 16 r → r ≡ row_at column s
  row-filled l h r f =
      ext_get_or 0 r (row_at column s) (f.long ∙ sym (length-row l h))
      (λ d k. let b : d < 16 = rw f.long at k in f.holds d b ∙ sym (row-entry d b))

-- ---- the words of a table's states
module _ (t : Arrays) where
  pub worded-rows : (i : ℕ) → t.states ≤ 128 → Worded t.ways (take i (rows_of t)) t.word
  worded-rows i h = record {
    few = omega (arith, lengths);
    full = λ s k. ap length (front s k) ∙ row-long t s (inside s k);
    words = λ s d k l. ap (λ r. (get_or r d (edge 0 0)).word) (front s k)
        ∙ ap (λ e. e.word) (edge-at t s d (inside s k) l);
  }
    where
      lengths : length (take i (rows_of t)) ≡ min i t.states
      lengths = length-take i (rows_of t) ∙ ap (min i) (length-rows t)

      inside : (s : ℕ) → s < length (take i (rows_of t)) → s < t.states
      inside s k = omega (arith, lengths)

      front : (s : ℕ) → s < length (take i (rows_of t)) → edges (take i (rows_of t)) s ≡ edges (rows_of t) s
      front s k = get_or-take i (rows_of t) s [] (omega (arith, lengths))

  pub words_row : (s : ℕ) → t.ways ≤ 16 → s < 128 → length t.word ≡ 2048
      → words_of (row_of t s) ≡ take t.ways (row_at t.word s)
  words_row s few h l =
      map-map (λ e. e.word) (edge_of t s) (range t.ways)
      ∙ sym (is-map 0 _ t.ways (take t.ways (row_at t.word s))
      (length-take-le t.ways (row_at t.word s) (rw (length-row t.word s l h) few))
      (λ d k. get_or-take t.ways (row_at t.word s) d 0 k ∙ row-entry t.word s d (omega arith)))

-- ---- the entries of state i in another order
pub reorder-none : (i : ℕ) (ds old : List ℕ) → length old ≡ 2048 → Reordered 0 i ds old old
reorder-none i ds old l = record { long = l; moved = λ d h. absurd (omega arith); kept = λ x h. refl }

pub reorder-more : (i d : ℕ) (ds old column : List ℕ) → d < 16 → i < 128 → Reordered d i ds old column
    → Reordered (d + 1) i ds old (set column (i * 16 + d) (get_or old (i * 16 + index_of d ds) 0))
reorder-more i d ds old column hd hi c = record {
  long = length-set column x v ∙ c.long;
  moved = below_more (λ e. get_or (set column x v) (i * 16 + e) 0 ≡ get_or old (i * 16 + index_of e ds) 0) d
      (λ e h. get_or-set_other column x (i * 16 + e) v 0 (λ q. omega arith) ∙ c.moved e h)
      (get_or-set_same column x v 0 (let l = c.long in omega arith));
  kept = λ y h. get_or-set_other column x y v 0 (apart y h) ∙ c.kept y (outside y h);
}
  where
    x : ℕ
    x = i * 16 + d

    v : ℕ
    v = get_or old (i * 16 + index_of d ds) 0

    apart : (y : ℕ) → (y < i * 16) ⊎ (i * 16 + (d + 1) ≤ y) → y ≡ x → ⊥
    apart y (inl h) q = omega arith
    apart y (inr h) q = omega arith

    outside : (y : ℕ) → (y < i * 16) ⊎ (i * 16 + (d + 1) ≤ y) → (y < i * 16) ⊎ (i * 16 + d ≤ y)
    outside y (inl h) = inl h
    outside y (inr h) = inr (omega arith)

module _ (count n i : ℕ) (ds word next word' next' : List ℕ) (few : n ≤ 16) (a : Reordered n i ds word word')
    (b : Reordered n i ds next next') where
  abbrev old : Arrays
  old = arrays count n word next

  abbrev new : Arrays
  new = arrays count n word' next'

  -- each datum of state i has the edge that bears it
  pub reordered-row : length ds ≡ n → ((d : ℕ) → d < n → T (elem d ds))
      → row_of new i ≡ map (bearer (row_of old i) ds) (range n)
  reordered-row l onto =
      map-range-same (edge_of new i) (bearer (row_of old i) ds) n
      (λ d h. ap₂ edge (a.moved d h) (b.moved d h)
      ∙ sym (map-range-at (edge_of old i) n (index_of d ds) (edge 0 0) (rw l at (index-lt d ds (onto d h)))))

  other : (s d : ℕ) → (s ≡ i → ⊥) → d < n → (s * 16 + d < i * 16) ⊎ (i * 16 + n ≤ s * 16 + d)
  other s d ne h = elim (dec_lt s i) [
    | yes l ↦ inl (omega arith)
    | no l ↦ let k : i < s = below (ℕ_discrete s i) l in inr (omega arith)
  ]
    where
      below : Dec (s ≡ i) → (s < i → ⊥) → i < s
      below (yes e) l = absurd (ne e)
      below (no e) l = omega arith

  row_other : (s : ℕ) → (s ≡ i → ⊥) → row_of new s ≡ row_of old s
  row_other s ne =
      map-range-same (edge_of new s) (edge_of old s) n
      (λ d h. ap₂ edge (a.kept (s * 16 + d) (other s d ne h)) (b.kept (s * 16 + d) (other s d ne h)))

  -- the rows of all other states stay
  pub reordered-rows : i < count → rows_of new ≡ set (rows_of old) i (row_of new i)
  reordered-rows hi =
      ext_get_or [] (rows_of new) (set (rows_of old) i (row_of new i))
      (length-rows new ∙ sym (length-set (rows_of old) i (row_of new i) ∙ length-rows old))
      (λ s h. let k : s < count = rw (length-rows new) at h in row-at new s k ∙ go s k (ℕ_discrete s i))
    where
      go : (s : ℕ) → s < count → Dec (s ≡ i) → row_of new s ≡ get_or (set (rows_of old) i (row_of new i)) s []
      go s k (yes e) =
          ap (row_of new) e
          ∙ sym (ap (λ x. get_or (set (rows_of old) i (row_of new i)) x []) e
          ∙ get_or-set_same (rows_of old) i (row_of new i) [] (rw (length-rows old) hi))
      go s k (no e) =
          row_other s e ∙ sym (get_or-set_other (rows_of old) i s (row_of new i) [] e ∙ row-at old s k)
