-- A table's arrays filled from a record's bits stand for the code that the bits hold.
-- In order: states-are; rows_are; code_is.
-- Assumes nothing.
use Rattle.std.proofs.Common.{◌≡◌, ◌+◌, ◌*◌, ◌^◌, ◌<◌}
use Rattle.laws.proofs.All.{sym, ap₂, ◌∙◌, List, [], map, ℕ, zero, suc, not-suc-le-zero}
use Rattle.laws.proofs.All.{le_of_suc-le-suc, arith, length, get_or, drop, range, is-map, quotient-of, remainder_of}
use Rattle.laws.proofs.All.{place-lt}
use Rattle.constraint.specs.Walking.{Constraint, nowhere}
use Rattle.table.specs.Rows.{Edge, edge, at}
use Rattle.table.specs.declared.Head.{Head}
use Rattle.record.specs.Layout.{header_bits, state_size, rows_of}
use Rattle.record.specs.Checks.{code_at}
use Rattle.record.specs.Places.{state_in, edges_place, spot, Column}
use Rattle.record.proofs.RecordAgain.{length-edges_of, length-nexts_of, length-rows_of}
use Rattle.record.proofs.RecordPlaces.{next_at, constraint-at, table_at}

-- the constraint
pub states-are : (h : Head) (bs : List ℕ) → map (state_in bs) (range h.count) ≡ (code_at h bs).constraint
states-are h bs =
    sym (is-map nowhere (state_in bs) h.count (code_at h bs).constraint (length-nexts_of h.count _)
    (λ k l. constraint-at h bs k nowhere l ∙ sym (same k)))
  where
    same : (k : ℕ) → state_in bs k ≡ next_at bs (header_bits + k * state_size)
    same k =
        let e : header_bits + 5 + k * state_size ≡ header_bits + k * state_size + 5 = omega arith in
        let f : header_bits + k * state_size + 5 + 1 ≡ header_bits + k * state_size + 6 = omega arith in rw (e, f)

-- the place of the edge of s that carries d
spot_of : (n s d : ℕ) → d < n → spot n (s * n + d) ≡ s * 16 + d
spot_of n s d h = ap₂ (λ x y. x * 16 + y) (quotient-of n s d h) (remainder_of n s d h)

length-row : (s n : ℕ) (vs : List ℕ) (i : ℕ) → i < s → length (get_or (rows_of s n vs) i []) ≡ n
length-row zero n vs i h = absurd (not-suc-le-zero h)
length-row (suc s) n vs zero h = length-edges_of n vs
length-row (suc s) n vs (suc i) h = length-row s n (drop (n * 2) vs) i (le_of_suc-le-suc h)

module _ (h : Head) (bs word next : List ℕ) where
  abbrev edge_of : ℕ → ℕ → Edge
  edge_of s d = edge (get_or word (s * 16 + d) 0) (get_or next (s * 16 + d) 0)

  abbrev row_of : ℕ → List Edge
  row_of s = map (edge_of s) (range (2 ^ h.p))

  module _ (w : Column bs (2 ^ h.p) (h.states * 2 ^ h.p) (edges_place h) (h.q + 7) h.q word)
      (x : Column bs (2 ^ h.p) (h.states * 2 ^ h.p) (edges_place h + h.q) (h.q + 7) 7 next) where
    edge-is : (s d : ℕ) → s < h.states → d < 2 ^ h.p → edge_of s d ≡ at (code_at h bs).table s d
    edge-is s d i l =
        let n = 2 ^ h.p in
        let e = s * n + d in
        let p : spot n e ≡ s * 16 + d = spot_of n s d l in
        let g : e < h.states * n = place-lt h.states n s d i l in
        let o : edges_place h + h.q + e * (h.q + 7) ≡ edges_place h + e * (h.q + 7) + h.q = omega arith in
        cc (w.filled e g, x.filled e g, table_at h bs s d i l)

    row_is : (s : ℕ) → s < h.states → row_of s ≡ get_or (code_at h bs).table s []
    row_is s i =
        sym (is-map (edge 0 0) (edge_of s) (2 ^ h.p) (get_or (code_at h bs).table s [])
        (length-row h.states (2 ^ h.p) _ s i) (λ d l. sym (edge-is s d i l)))

    -- the table
    pub rows_are : map row_of (range h.states) ≡ (code_at h bs).table
    rows_are =
        sym (is-map [] row_of h.states (code_at h bs).table (length-rows_of h.states (2 ^ h.p) _)
        (λ s l. sym (row_is s l)))

-- the code, from the constraint and the columns
pub code_is : (h : Head) (bs word next : List ℕ) (k : Constraint) (n : ℕ) → n ≡ 2 ^ h.p
    → k ≡ map (state_in bs) (range h.count)
    → Column bs n (h.states * n) (edges_place h) (h.q + 7) h.q word
    → Column bs n (h.states * n) (edges_place h + h.q) (h.q + 7) 7 next
    → record {
      p = h.p;
      q = h.q;
      window = record { memory = h.memory; lookahead = h.lookahead };
      constraint = k;
      start = h.start;
      tail = h.tail;
      table = map (row_of h bs word next) (range h.states);
    } ≡ code_at h bs
code_is h bs word next k n e f w x =
    rw (f, states-are h bs, rows_are h bs word next (rw e at w) (rw e at x))
