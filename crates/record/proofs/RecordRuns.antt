-- The constraint's states and the table's edges written one after the other.
-- In order: states-begin, states-next; edge_no, edges_bits, edges-begin, edges-next, edges-all.
-- Assumes nothing.
use Rattle.std.proofs.Common.{◌≡◌, ◌++◌, ◌+◌, ◌*◌, ◌/◌, ◌%◌, ◌^◌, ◌≤◌}
use Rattle.laws.proofs.All.{refl, sym, ap, ap₂, ◌∙◌, List, map, ℕ, arith}
use Rattle.laws.proofs.All.{length, get_or, length-append, concat, range, map-range-same, quotient-of, remainder_of}
use mathlib.Core.List.{map-map}
use Rattle.bits.specs.Fields.{bits}
use Rattle.bits.specs.Bytes.{spliced}
use Rattle.bits.proofs.Fields.{length-bits}
use Rattle.bits.proofs.Runs.{spliced-next, run-next}
use Rattle.constraint.specs.declared.Constraint.{Constraint}
use Rattle.constraint.specs.Value.{next_states_at}
use Rattle.table.specs.declared.Table.{Table}
use Rattle.table.specs.Rows.{Edge}
use Rattle.table.specs.Value.{edge_in, row_in, rows_in}
use Rattle.record.specs.Layout.{header_bits, state_size}
use Rattle.record.specs.Parts.{next_bits, state_bits, edge_bits, states_bits, rows_bits}
use Rattle.record.proofs.RecordParts.{spliced-none}
use Rattle.record.proofs.Runs.{flat}

length-next : (s : ℕ) → length (next_bits s) ≡ 5
unfolding next_bits
length-next s = refl

length-state : (k : Constraint) (s : ℕ) → length (state_bits (next_states_at k s)) ≡ 10
unfolding state_bits
length-state k s = simp (length-append, length-next)

pub states-begin : (k : Constraint) (B : List ℕ) (at : ℕ) → B
    ≡ spliced at (states_bits (map (next_states_at k) (range 0))) B
unfolding states_bits
states-begin k B at = spliced-none at B

-- the two next states of one state more
pub states-next : (k : Constraint) (s : ℕ) (B B₁ B₂ B₃ : List ℕ)
    → header_bits + state_size + s * state_size ≤ length B → length B₁ ≡ length B
    → B₁ ≡ spliced header_bits (states_bits (map (next_states_at k) (range s))) B
    → B₂ ≡ spliced (header_bits + s * state_size) (next_bits (get_or k.zero s 0)) B₁
    → B₃ ≡ spliced (header_bits + 5 + s * state_size) (next_bits (get_or k.one s 0)) B₂
    → B₃ ≡ spliced header_bits (states_bits (map (next_states_at k) (range (s + 1)))) B
unfolding states_bits state_bits
states-next k s B B₁ B₂ B₃ h l p q r =
    let z = get_or k.zero s 0 in
    let o = get_or k.one s 0 in
    let e : header_bits + 5 + s * state_size ≡ header_bits + s * state_size + length (next_bits z) =
    omega (arith, length-next z) in
    let g : B₃ ≡ spliced (header_bits + s * state_size) (next_bits z ++ next_bits o) B₁ =
    spliced-next B₁ B₂ B₃ (next_bits z) (next_bits o) (header_bits + s * state_size) (header_bits + 5 + s * state_size)
    e
    (omega (arith, length-next o)) q r in
    run-next (λ i. state_bits (next_states_at k i)) state_size (length-state k) B B₁ B₃ header_bits s
    (header_bits + s * state_size) refl (omega arith)
    (p ∙ ap (λ x. spliced header_bits (concat x) B) (map-map state_bits (next_states_at k) (range s))) g
    ∙ ap (λ x. spliced header_bits (concat x) B) (sym (map-map state_bits (next_states_at k) (range (s + 1))))

-- ---- the edges, numbered over all states

-- the e-th edge, n a state
abbrev pub edge_no : Table → ℕ → ℕ → Edge
edge_no t n e = edge_in t (e / n) (e % n)

-- the bits of the first k edges
unfoldable pub edges_bits : Table → ℕ → ℕ → List ℕ
edges_bits t n k = concat (map (λ e. edge_bits t.q (edge_no t n e)) (range k))

length-edge : (q : ℕ) (e : Edge) → length (edge_bits q e) ≡ q + 7
unfolding edge_bits
length-edge q e = simp (length-append, length-bits)

pub edges-begin : (t : Table) (n : ℕ) (B : List ℕ) (at : ℕ) → B ≡ spliced at (edges_bits t n 0) B
unfolding edges_bits
edges-begin t n B at = spliced-none at B

-- the word and the next state of one edge more
pub edges-next : (t : Table) (n e at m : ℕ) (B B₁ B₂ B₃ : List ℕ) → m ≡ at + e * (t.q + 7) → m + t.q + 7 ≤ length B
    → length B₁ ≡ length B → B₁ ≡ spliced at (edges_bits t n e) B
    → B₂ ≡ spliced m (bits t.q (edge_no t n e).word) B₁ → B₃ ≡ spliced (m + t.q) (bits 7 (edge_no t n e).next) B₂
    → B₃ ≡ spliced at (edges_bits t n (e + 1)) B
unfolding edges_bits edge_bits
edges-next t n e at m B B₁ B₂ B₃ f h l p q r =
    let w = bits t.q (edge_no t n e).word in
    let x = bits 7 (edge_no t n e).next in
    let lw = length-bits t.q (edge_no t n e).word in
    let g : B₃ ≡ spliced m (w ++ x) B₁ =
    spliced-next B₁ B₂ B₃ w x m (m + t.q) (omega arith) (omega (arith, length-bits 7 (edge_no t n e).next)) q
    r in
    run-next (λ i. edge_bits t.q (edge_no t n i)) (t.q + 7) (λ i. length-edge t.q (edge_no t n i)) B B₁ B₃ at e m f
    (omega arith) p g

-- all edges are those of the rows
pub edges-all : (t : Table) → edges_bits t (2 ^ t.p) (t.states * 2 ^ t.p) ≡ rows_bits t.q (rows_in t)
unfolding edges_bits rows_bits
edges-all t =
    let n = 2 ^ t.p in
    ap concat (sym (map-map (edge_bits t.q) (edge_no t n) (range (t.states * n))))
    ∙ ap (λ l. concat (map (edge_bits t.q) l)) (sym (flat (edge_no t n) n t.states)
    ∙ ap concat (map-range-same (λ s. map (λ d. edge_no t n (s * n + d)) (range n)) (row_in t) t.states
    (λ s h. map-range-same (λ d. edge_no t n (s * n + d)) (edge_in t s) n
    (λ d g. ap₂ (edge_in t) (quotient-of n s d g) (remainder_of n s d g)))))
