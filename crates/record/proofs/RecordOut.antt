-- The parts of a record one after the other are its bits, and bytes with these bits in front are the record in lent
-- bytes.
-- In order: length_front, length-states, length-table; parts_are, length-parts; bytes-are.
-- Assumes nothing.
use Rattle.std.proofs.Common.{◌≡◌, ◌∷◌, ◌++◌, ◌+◌, ◌*◌, ◌^◌, ◌≤◌}
use Rattle.laws.proofs.All.{refl, sym, ap, ap₂, ◌∙◌, List, [], map, append_assoc, append-nil, ℕ}
use Rattle.laws.proofs.All.{arith, length, drop, length-append, concat, repeat, Each, Below}
use Rattle.laws.proofs.All.{sum-repeat, sum-replicate, length-repeat}
use Rattle.bits.specs.Fields.{bits, write, bits_of}
use Rattle.bits.specs.Bytes.{spliced}
use Rattle.bits.proofs.Fields.{below-write, write-append}
use Rattle.bits.proofs.Runs.{bytes-in-front}
use Rattle.constraint.specs.Walking.{Constraint}
use Rattle.table.specs.Rows.{Edge, Rows, Code}
use Rattle.table.specs.declared.Head.{Head}
use Rattle.table.specs.Formed.{head}
use Rattle.record.specs.Layout.{header_bits, state_size}
use Rattle.record.specs.Layout.{front_values, header, size, fill, widths, nexts, pairs, rows, values, pack}
use Rattle.record.specs.Parts.{front_bits, next_bits, state_bits, edge_bits, states_bits, rows_bits}
use Rattle.record.proofs.RecordFits.{sum-widths}
use Rattle.record.proofs.RecordParts.{length_fields}
use Rattle.record.proofs.RecordWrite.{length-nexts, length_pairs, length-rows, length-pack}

-- ---- the constraint
fields-nexts : (c : Constraint) → length {A = ℕ} (repeat (length c) (1 ∷ 4 ∷ 1 ∷ 4 ∷ [])) ≡ length (nexts c)
fields-nexts c = length-repeat (length c) (1 ∷ 4 ∷ 1 ∷ 4 ∷ []) ∙ sym (length-nexts c)

states-write : (c : Constraint) → write (repeat (length c) (1 ∷ 4 ∷ 1 ∷ 4 ∷ [])) (nexts c) ≡ states_bits c
unfolding states_bits state_bits next_bits
states-write [] = refl
states-write (r ∷ c) = ap (λ l. state_bits r ++ l) (states-write c)

-- ---- the table
module _ (q : ℕ) where
  fields-pairs : (es : List Edge) → length (repeat (length es) (q ∷ 7 ∷ [])) ≡ length (pairs es)
  fields-pairs es = length-repeat (length es) (q ∷ 7 ∷ []) ∙ sym (length_pairs es)

  pairs-write : (es : List Edge) → write (repeat (length es) (q ∷ 7 ∷ [])) (pairs es) ≡ concat (map (edge_bits q) es)
  unfolding edge_bits
  pairs-write [] = refl
  pairs-write (e ∷ es) =
      cc (pairs-write es, append_assoc (bits q e.word) (bits 7 e.next) (concat (map (edge_bits q) es)))

  pieces : (es fs : List Edge)
      → concat (map (edge_bits q) (es ++ fs)) ≡ concat (map (edge_bits q) es) ++ concat (map (edge_bits q) fs)
  pieces [] fs = refl
  pieces (e ∷ es) fs =
      cc (pieces es fs, append_assoc (edge_bits q e) (concat (map (edge_bits q) es)) (concat (map (edge_bits q) fs)))

  fields-rows : (n : ℕ) (t : Rows) → Each (λ es. length es ≡ n) t
      → length (repeat (length t) (repeat n (q ∷ 7 ∷ []))) ≡ length (rows t)
  fields-rows n t h =
      cc (length-repeat (length t) (repeat n (q ∷ 7 ∷ [])), length-repeat n (q ∷ 7 ∷ []), length-rows n t h)

  rows_write : (n : ℕ) (t : Rows) → Each (λ es. length es ≡ n) t
      → write (repeat (length t) (repeat n (q ∷ 7 ∷ []))) (rows t) ≡ rows_bits q t
  unfolding rows_bits
  rows_write n [] h = refl
  rows_write n (es ∷ t) (e, h) =
      let R = repeat (length t) (repeat n (q ∷ 7 ∷ [])) in
      write-append (repeat n (q ∷ 7 ∷ [])) R (pairs es) (rows t)
      (ap (λ m. length (repeat m (q ∷ 7 ∷ []))) (sym e) ∙ fields-pairs es)
      ∙ ap₂ ◌++◌ (ap (λ m. write (repeat m (q ∷ 7 ∷ [])) (pairs es)) (sym e) ∙ pairs-write es) (rows_write n t h)
      ∙ sym (pieces es (concat t))

-- how long the parts are
pub length_front : (h : Head) → length (front_bits h) ≡ header_bits
unfolding front_bits
length_front h = length_fields header (front_values h) refl

pub length-states : (c : Constraint) → length (states_bits c) ≡ length c * state_size
length-states c =
    ap length (sym (states-write c)) ∙ length_fields (repeat (length c) (1 ∷ 4 ∷ 1 ∷ 4 ∷ [])) (nexts c)
    (fields-nexts c)
    ∙ sum-repeat (length c) (1 ∷ 4 ∷ 1 ∷ 4 ∷ [])

pub length-table : (q n : ℕ) (t : Rows) → Each (λ es. length es ≡ n) t
    → length (rows_bits q t) ≡ length t * (n * (q + 7))
length-table q n t h =
    ap length (sym (rows_write q n t h))
    ∙ length_fields (repeat (length t) (repeat n (q ∷ 7 ∷ []))) (rows t) (fields-rows q n t h)
    ∙ sum-repeat (length t) (repeat n (q ∷ 7 ∷ [])) ∙ ap (λ m. length t * m) (sum-repeat n (q ∷ 7 ∷ []))

-- the parts are the record's bits
module _ (c : Code) (even : Each (λ es. length es ≡ 2 ^ c.p) c.table) where
  abbrev wide : List ℕ
  wide = repeat (length c.table) (repeat (2 ^ c.p) (c.q ∷ 7 ∷ []))

  behind-states : write (wide ++ (fill (head c) ∷ [])) (rows c.table ++ (0 ∷ []))
      ≡ rows_bits c.q c.table ++ bits (fill (head c)) 0
  behind-states =
      write-append wide (fill (head c) ∷ []) (rows c.table) (0 ∷ []) (fields-rows c.q (2 ^ c.p) c.table even)
      ∙ ap₂ ◌++◌ (rows_write c.q (2 ^ c.p) c.table even) (append-nil (bits (fill (head c)) 0))

  pub parts_are : ((front_bits (head c) ++ states_bits c.constraint) ++ rows_bits c.q c.table)
      ++ bits (fill (head c)) 0 ≡ write (widths (head c)) (values c)
  unfolding front_bits
  parts_are =
      let ks = repeat {A = ℕ} (length c.constraint) (1 ∷ 4 ∷ 1 ∷ 4 ∷ []) in
      let tail = rows_bits c.q c.table ++ bits (fill (head c)) 0 in
      append_assoc (front_bits (head c) ++ states_bits c.constraint) (rows_bits c.q c.table)
      (bits (fill (head c)) 0)
      ∙ append_assoc (front_bits (head c)) (states_bits c.constraint) tail
      ∙ sym (write-append header (ks ++ (wide ++ (fill (head c) ∷ []))) (front_values (head c))
      (nexts c.constraint ++ (rows c.table ++ (0 ∷ []))) refl
      ∙ ap (λ l. front_bits (head c) ++ l) (write-append ks (wide ++ (fill (head c) ∷ [])) (nexts c.constraint)
      (rows c.table ++ (0 ∷ [])) (fields-nexts c.constraint)
      ∙ ap₂ ◌++◌ (states-write c.constraint) behind-states))

  -- there are as many fields as widths
  length-values : length (widths (head c)) ≡ length (values c)
  length-values =
      let ks = repeat {A = ℕ} (length c.constraint) (1 ∷ 4 ∷ 1 ∷ 4 ∷ []) in
      let a = length-append ks (wide ++ (fill (head c) ∷ [])) in
      let b = length-append wide (fill (head c) ∷ []) in
      let d = length-append (nexts c.constraint) (rows c.table ++ (0 ∷ [])) in
      let e = length-append (rows c.table) (0 ∷ []) in
      let f = fields-nexts c.constraint in
      let g = fields-rows c.q (2 ^ c.p) c.table even in
      omega arith

  pub length-parts : length (write (widths (head c)) (values c)) ≡ size (head c) * 8
  length-parts = length_fields (widths (head c)) (values c) length-values ∙ sum-widths (head c)
      ∙ sum-replicate (size (head c)) 8

-- bytes that hold the record's bits in front, and are as lent after them
pub bytes-are : (c : Code) → length (write (widths (head c)) (values c)) ≡ size (head c) * 8 → (out new : List ℕ)
    → Below 256 out → Below 256 new → size (head c) ≤ length out → length new ≡ length out
    → bits_of new ≡ spliced 0 (write (widths (head c)) (values c)) (bits_of out)
    → new ≡ pack c ++ drop (length (pack c)) out
unfolding pack
bytes-are c long out new b d h l e =
    bytes-in-front (write (widths (head c)) (values c)) (size (head c)) (below-write (widths (head c)) (values c)) long
    out new b d h l e
    ∙ ap (λ n. pack c ++ drop n out) (sym (length-pack c))
