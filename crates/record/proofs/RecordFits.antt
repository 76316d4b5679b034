-- The fields of a code fit their widths, and fill the bytes of its record.
-- In order: sum-widths, fits-values.
-- Assumes nothing.
use Rattle.std.proofs.Common.{◌≡◌, ◌∷◌, ◌++◌, ◌+◌, ◌*◌, ◌-◌, ◌/◌, ◌^◌, ◌≤◌, ◌<◌}
use Rattle.laws.proofs.All.{eqb_is, so, nay, List, [], ℕ}
use Rattle.laws.proofs.All.{arith, T, ltb, eqb, eqb→eq, ltb→lt, length, replicate, pow_pos, all, sum, repeat, and→}
use Rattle.laws.proofs.All.{sum-repeat, sum-replicate, sum-append}
use Rattle.constraint.specs.Walking.{NextStates, none}
use Rattle.table.specs.Rows.{Edge, Rows, Code}
use Rattle.bits.specs.Fields.{Fits}
use Rattle.bits.proofs.Fields.{fits-append}
use Rattle.table.specs.declared.Head.{Head}
use Rattle.table.proofs.RowsOf.{ways-small}
use Rattle.table.specs.Formed.{head, good_state, good_next, good_edge, good_row, Formed}
use Rattle.record.specs.Layout.{header_bits, state_size}
use Rattle.record.specs.Layout.{size, fill, widths, present, shown, nexts, pairs, rows, values}

-- ---- sums and lengths

-- a record's fields, the fill among them, fill its bytes
filled : (b : ℕ) → b + (8 * ((b + 7) / 8) - b) ≡ (b + 7) / 8 * 8
filled b = omega arith

pub sum-widths : (h : Head) → sum (widths h) ≡ sum (replicate (size h) 8)
sum-widths h = simp (sum-append, sum-repeat, sum-replicate)
    (omega (arith, filled (header_bits + state_size * h.count + h.states * (2 ^ h.p * (h.q + 7)))))

-- ---- a code's values fit their widths

present-lt : (s : ℕ) → present s < 2
present-lt s = elim (eqb_is s none) [ so p q ↦ rw q (omega arith) | nay p q ↦ rw q (omega arith) ]

shown-lt : (k s : ℕ) → k ≤ 16 → T (good_state k s) → shown s < 16
shown-lt k s h t =
    elim (eqb_is s none) [ so p q ↦ rw q (omega arith) | nay p q ↦ rw q (omega (arith, ltb→lt s k (rw q at t))) ]

fits-nexts : (k : ℕ) (c : List NextStates) → k ≤ 16 → T (all (good_next k) c)
    → Fits (repeat (length c) (1 ∷ 4 ∷ 1 ∷ 4 ∷ [])) (nexts c)
fits-nexts k [] h t = tt
fits-nexts k (r ∷ c) h t =
    let (a, b) = and→ (good_next k r) (all (good_next k) c) t in
    let (x, y) = and→ (good_state k r.zero) (good_state k r.one) a in (
      present-lt r.zero,
      (shown-lt k r.zero h x, (present-lt r.one, (shown-lt k r.one h y, fits-nexts k c h b))),
    )

fits-pairs : (q n : ℕ) (es : List Edge) → n ≤ 128 → T (all (good_edge q n) es)
    → Fits (repeat (length es) (q ∷ 7 ∷ [])) (pairs es)
fits-pairs q n [] h t = tt
fits-pairs q n (e ∷ es) h t =
    let (a, b) = and→ (good_edge q n e) (all (good_edge q n) es) t in
    let (x, y) = and→ (ltb e.word (2 ^ q)) (ltb e.next n) a in
    (ltb→lt e.word (2 ^ q) x, (omega (arith, ltb→lt e.next n y), fits-pairs q n es h b))

fits-rows : (p q n : ℕ) (g : Rows) → n ≤ 128 → T (all (good_row p q n) g)
    → Fits (repeat (length g) (repeat (2 ^ p) (q ∷ 7 ∷ []))) (rows g)
fits-rows p q n [] h t = tt
fits-rows p q n (es ∷ g) h t =
    let (a, b) = and→ (good_row p q n es) (all (good_row p q n) g) t in
    let (l, x) = and→ (eqb (length es) (2 ^ p)) (all (good_edge q n) es) a in
    fits-append (repeat (2 ^ p) (q ∷ 7 ∷ [])) (pairs es) (repeat (length g) (repeat (2 ^ p) (q ∷ 7 ∷ []))) (rows g)
    (rw (eqb→eq (length es) (2 ^ p) l) at (fits-pairs q n es h x)) (fits-rows p q n g h b)

pub fits-values : (c : Code) → Formed c → Fits (widths (head c)) (values c)
fits-values c f =
    let r = f.range in
    let lp : c.p < 8 = omega (arith, r.p₂) in
    let lq : c.q < 16 = omega (arith, r.q₂) in
    let ls : length c.table - 1 < 128 = omega (arith, r.s₁, r.s₂) in
    let lk : length c.constraint - 1 < 16 = omega (arith, r.k₁, r.k₂) in
    let lz : c.start < 16 = omega (arith, r.start, r.k₂) in
    let le : c.tail < 16 = omega (arith, r.tail, ways-small c.p r.p₂) in
    let K = length c.constraint in
    let S = length c.table in
    let last : Fits (fill (head c) ∷ []) (0 ∷ []) = (pow_pos (fill (head c)), tt) in
    let tables = fits-append (repeat S (repeat (2 ^ c.p) (c.q ∷ 7 ∷ []))) (rows c.table) (fill (head c) ∷ [])
    (0 ∷ [])
    (fits-rows c.p c.q S c.table r.s₂ f.rows) last in
    let rest = fits-append (repeat K (1 ∷ 4 ∷ 1 ∷ 4 ∷ [])) (nexts c.constraint) _ (rows c.table ++ (0 ∷ []))
    (fits-nexts K c.constraint r.k₂ f.nexts) tables in
    (lp, (lq, (ls, (r.m, (r.a, (lk, (lz, (le, rest))))))))
