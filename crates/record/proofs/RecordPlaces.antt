-- Where each field of a record stands: the code that is read, entry by entry, by bit places.
-- In order: field-drop, drop-read, behind, fields after others; next_at, next-at, a constraint state by its place;
-- edge_at, edge-at, row-at, an edge by its place; fields, behind-head, constraint-at, table_at.
-- Assumes nothing.
use Rattle.std.proofs.Common.{◌≡◌, ◌∷◌, ◌++◌, ◌+◌, ◌*◌, ◌^◌, ◌<◌}
use Rattle.laws.proofs.All.{refl, ap, ap₂, ◌∙◌, List, [], append_assoc, ℕ, zero, suc}
use Rattle.laws.proofs.All.{not-suc-le-zero, le_of_suc-le-suc, zero-mul, suc-mul, zero-add, arith, length}
use Rattle.laws.proofs.All.{get_or, drop, drop-drop, sum, repeat, sum-repeat, length-repeat}
use Rattle.constraint.specs.Walking.{NextStates}
use Rattle.table.specs.Rows.{Edge, edge, at}
use Rattle.bits.specs.Fields.{read, field}
use Rattle.table.specs.declared.Head.{Head}
use Rattle.record.specs.Layout.{header_bits, header_fields, state_size}
use Rattle.record.specs.Layout.{header, fill, widths, opened, nexts_of, edges_of, rows_of, code_of}

pub field-drop : (bs : List ℕ) (k o o' w : ℕ) → k + o ≡ o' → field (drop k bs) o w ≡ field bs o' w
field-drop bs k o o' w e = rw (drop-drop o k bs, e)

pub drop-read : (ws us bs : List ℕ) → drop (length ws) (read (ws ++ us) bs) ≡ read us (drop (sum ws) bs)
drop-read [] us bs = refl
drop-read (w ∷ ws) us bs = drop-read ws us (drop w bs) ∙ ap (read us) (drop-drop (sum ws) w bs)

-- the fields after n groups of widths
pub behind : (n m : ℕ) (ws us bs : List ℕ) → n * length ws ≡ m
    → drop m (read (repeat n ws ++ us) bs) ≡ read us (drop (n * sum ws) bs)
behind n m ws us bs e = cc (length-repeat n ws, drop-read (repeat n ws) us bs, sum-repeat n ws)

-- ---- constraint states
abbrev pub next_at : List ℕ → ℕ → NextStates
next_at bs o = record {
  zero = opened (field bs o 1) (field bs (o + 1) 4);
  one =
      opened (field bs (o + 5) 1) (field bs (o + 6) 4);
}

next_at-drop : (bs : List ℕ) (k o o' : ℕ) → k + o ≡ o' → next_at (drop k bs) o ≡ next_at bs o'
next_at-drop bs k o o' e =
    let f₀ = field-drop bs k o o' 1 e in
    let f₁ = field-drop bs k (o + 1) (o' + 1) 4 (omega arith) in
    let f₅ = field-drop bs k (o + 5) (o' + 5) 1 (omega arith) in
    let f₆ = field-drop bs k (o + 6) (o' + 6) 4 (omega arith) in
    cc

five : (bs : List ℕ) → drop 4 (drop 1 bs) ≡ drop 5 bs
five bs = drop-drop 4 1 bs

six : (bs : List ℕ) → drop 1 (drop 4 (drop 1 bs)) ≡ drop 6 bs
six bs = ap (drop 1) (five bs) ∙ drop-drop 1 5 bs

ten : (bs : List ℕ) → drop 4 (drop 1 (drop 4 (drop 1 bs))) ≡ drop 10 bs
ten bs = ap (drop 4) (six bs) ∙ drop-drop 4 6 bs

next-at : (n k : ℕ) (us bs : List ℕ) (d : NextStates) → k < n
    → get_or (nexts_of n (read (repeat n (1 ∷ 4 ∷ 1 ∷ 4 ∷ []) ++ us) bs)) k d ≡ next_at bs (k * state_size)
next-at zero k us bs d h = absurd (not-suc-le-zero h)
next-at (suc n) zero us bs d h =
    rw (six bs, five bs)
next-at (suc n) (suc k) us bs d h =
    next-at n k us (drop 4 (drop 1 (drop 4 (drop 1 bs)))) d (le_of_suc-le-suc h)
    ∙ ap (λ l. next_at l (k * state_size)) (ten bs)
    ∙ next_at-drop bs 10 (k * state_size) (suc k * state_size) (omega arith)

-- ---- edges
abbrev pub edge_at : List ℕ → ℕ → ℕ → Edge
edge_at bs o q = edge (field bs o q) (field bs (o + q) 7)

edge_at-drop : (bs : List ℕ) (k o o' q : ℕ) → k + o ≡ o' → edge_at (drop k bs) o q ≡ edge_at bs o' q
edge_at-drop bs k o o' q e =
    let f = field-drop bs k (o + q) (o' + q) 7 (omega arith) in
    ap₂ edge (field-drop bs k o o' q e) f

edge-at : (n d q : ℕ) (us bs : List ℕ) → d < n
    → get_or (edges_of n (read (repeat n (q ∷ 7 ∷ []) ++ us) bs)) d (edge 0 0) ≡ edge_at bs (d * (q + 7)) q
edge-at zero d q us bs h = absurd (not-suc-le-zero h)
edge-at (suc n) zero q us bs h = cc (zero-add q, zero-mul (q + 7))
edge-at (suc n) (suc d) q us bs h =
    let e : q + 7 + d * (q + 7) ≡ suc d * (q + 7) = omega (arith, suc-mul d (q + 7)) in
    edge-at n d q us (drop 7 (drop q bs)) (le_of_suc-le-suc h) ∙ ap (λ l. edge_at l (d * (q + 7)) q) (drop-drop 7 q bs)
    ∙ edge_at-drop bs (q + 7) (d * (q + 7)) (suc d * (q + 7)) q e

row-at : (s i n d q : ℕ) (us bs : List ℕ) → i < s → d < n
    → at (rows_of s n (read (repeat s (repeat n (q ∷ 7 ∷ [])) ++ us) bs)) i d ≡ edge_at bs ((i * n + d) * (q + 7)) q
row-at zero i n d q us bs h l = absurd (not-suc-le-zero h)
row-at (suc s) zero n d q us bs h l =
    let A = repeat n (q ∷ 7 ∷ []) in
    let B = repeat s (repeat n (q ∷ 7 ∷ [])) in
    let e : d ≡ 0 * n + d = omega arith in
    cc (append_assoc A B us, edge-at n d q (B ++ us) bs l)
row-at (suc s) (suc i) n d q us bs h l =
    let A = repeat n (q ∷ 7 ∷ []) in
    let B = repeat s (repeat n (q ∷ 7 ∷ [])) in
    let e : n * (q + 7) + (i * n + d) * (q + 7) ≡ (suc i * n + d) * (q + 7) = omega arith in
    ap (λ ws. at (rows_of s n (drop (n * 2) (read ws bs))) i d) (append_assoc A B us)
    ∙ ap (λ vs. at (rows_of s n vs) i d) (behind n (n * 2) (q ∷ 7 ∷ []) (B ++ us) bs refl)
    ∙ row-at s i n d q us (drop (n * (q + 7)) bs) (le_of_suc-le-suc h) l
    ∙ edge_at-drop bs (n * (q + 7)) ((i * n + d) * (q + 7)) ((suc i * n + d) * (q + 7)) q e

-- ---- the code that is read from the bits bs under the header h
module _ (h : Head) (bs : List ℕ) where
  abbrev pub fields : List ℕ
  fields = repeat h.count (1 ∷ 4 ∷ 1 ∷ 4 ∷ []) ++
      (repeat h.states (repeat (2 ^ h.p) (h.q ∷ 7 ∷ [])) ++ (fill h ∷ []))

  pub behind-head : drop header_fields (read (widths h) bs) ≡ read fields (drop header_bits bs)
  behind-head = drop-read header fields bs

  pub constraint-at : (k : ℕ) (d : NextStates) → k < h.count
      → get_or (code_of h (read (widths h) bs)).constraint k d ≡ next_at bs (header_bits + k * state_size)
  constraint-at k d l =
      ap (λ vs. get_or (nexts_of h.count vs) k d) behind-head ∙ next-at h.count k _ (drop header_bits bs) d l
      ∙ next_at-drop bs header_bits (k * state_size) (header_bits + k * state_size) refl

  pub table_at : (s d : ℕ) → s < h.states → d < 2 ^ h.p
      → at (code_of h (read (widths h) bs)).table s d ≡ edge_at bs
      (header_bits + h.count * state_size + (s * 2 ^ h.p + d) * (h.q + 7)) h.q
  table_at s d i l =
      let us = repeat h.states (repeat (2 ^ h.p) (h.q ∷ 7 ∷ [])) ++ (fill h ∷ []) in
      ap (λ vs. at (rows_of h.states (2 ^ h.p) (drop (h.count * 4) vs)) s d) behind-head
      ∙ ap (λ vs. at (rows_of h.states (2 ^ h.p) vs) s d)
      (behind h.count (h.count * 4) (1 ∷ 4 ∷ 1 ∷ 4 ∷ []) us (drop header_bits bs) refl)
      ∙ row-at h.states s (2 ^ h.p) d h.q (fill h ∷ []) (drop (h.count * state_size) (drop header_bits bs)) i l
      ∙ ap (λ l. edge_at l ((s * 2 ^ h.p + d) * (h.q + 7)) h.q) (drop-drop (h.count * state_size) header_bits bs)
      ∙ edge_at-drop bs (header_bits + h.count * state_size) ((s * 2 ^ h.p + d) * (h.q + 7))
      (header_bits + h.count * state_size + (s * 2 ^ h.p + d) * (h.q + 7)) h.q refl
