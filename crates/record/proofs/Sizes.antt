-- How large the numbers of a record get, and which fields the header has.
-- In order: small_of; row-le, edges_le, bit_count-le; Standing, front-is; place-le, product_le; edge-count-le,
-- edges-end; reach-words, reach-nexts.
-- Assumes nothing.
use Rattle.std.proofs.Common.{◌≡◌, ◌∷◌, ◌+◌, ◌*◌, ◌^◌, ◌≤◌, ◌<◌}
use Rattle.laws.proofs.All.{refl, ap, List, [], ℕ, mul-le-mul, mul-le-mul_right}
use Rattle.laws.proofs.All.{mul_assoc, arith, lit≤, drop, drop-drop, pow_pos}
use Rattle.bits.specs.Fields.{field, read}
use Rattle.bits.proofs.Runs.{size_holds}
use Rattle.table.specs.declared.Head.{Head}
use Rattle.table.specs.Formed.{Ranges}
use Rattle.table.proofs.RowsOf.{ways-small}
use Rattle.record.specs.Layout.{header, head_of, bit_count, size}
use Rattle.record.specs.Places.{Small, edges_place, Reach}

-- numbers in range are small
pub small_of : (h : Head) → Ranges h → Small h
small_of h r = record { p₂ = r.p₂; q₂ = r.q₂; s₂ = r.s₂; k₂ = r.k₂ }

pub row-le : (h : Head) → Small h → 2 ^ h.p * (h.q + 7) ≤ 240
row-le h r =
    let q : h.q + 7 ≤ 15 = omega (arith, r.q₂) in
    mul-le-mul {n₁ = 2 ^ h.p} {m₁ = h.q + 7} {n₂ = 16} {m₂ = 15} (ways-small h.p r.p₂) q

pub edges_le : (h : Head) → Small h → h.states * (2 ^ h.p * (h.q + 7)) ≤ 30720
edges_le h r =
    mul-le-mul {n₁ = h.states} {m₁ = 2 ^ h.p * (h.q + 7)} {n₂ = 128} {m₂ = 240} r.s₂ (row-le h r)

pub bit_count-le : (h : Head) → Small h → bit_count h ≤ 30914
bit_count-le h r = omega (arith, edges_le h r, r.k₂)

-- the numbers vs stand in fields of the widths ws, one after the other from the place o on
abbrev pub Standing : List ℕ → ℕ → List ℕ → List ℕ → Type 0
Standing bs o [] [] = Unit {0}
Standing bs o [] (v ∷ vs) = ⊥
Standing bs o (w ∷ ws) [] = ⊥
Standing bs o (w ∷ ws) (v ∷ vs) = (v ≡ field bs o w) × Standing bs (o + w) ws vs

fields-are : (bs : List ℕ) (o : ℕ) (ws vs : List ℕ) → Standing bs o ws vs → vs ≡ read ws (drop o bs)
fields-are bs o [] [] s = refl
fields-are bs o [] (v ∷ vs) s = absurd s
fields-are bs o (w ∷ ws) [] s = absurd s
fields-are bs o (w ∷ ws) (v ∷ vs) (e, s) = cc (fields-are bs (o + w) ws vs s, drop-drop w o bs)

-- the numbers in front, field by field
pub front-is : (bs : List ℕ) (p q s m a k z e : ℕ) → Standing bs 0 header (p ∷ q ∷ s ∷ m ∷ a ∷ k ∷ z ∷ e ∷ [])
    → record { p = p; q = q; states = s + 1; memory = m; lookahead = a; count = k + 1; start = z; tail = e }
    ≡ head_of (read header bs)
front-is bs p q s m a k z e f = ap head_of (fields-are bs 0 header (p ∷ q ∷ s ∷ m ∷ a ∷ k ∷ z ∷ e ∷ []) f)

-- the e-th of k fields of w bits, d bits apart
pub place-le : (o k d w l e : ℕ) → e < k → o + k * d + w ≤ l + d → o + e * d + w ≤ l
place-le o k d w l e h g = omega (arith, mul-le-mul_right {m = e + 1} {n = k} d (omega arith))

-- a product of small numbers
pub product_le : (e d k m : ℕ) → e ≤ k → d ≤ m → e * d ≤ k * m
product_le e d k m h g = mul-le-mul {n₁ = e} {m₁ = d} {n₂ = k} {m₂ = m} h g

-- the edges of all states
pub edge-count-le : (h : Head) (n : ℕ) → Small h → n ≡ 2 ^ h.p → h.states * n ≤ 2048
edge-count-le h n r e = rw e (product_le h.states (2 ^ h.p) 128 16 r.s₂ (ways-small h.p r.p₂))

pub edges-end : (h : Head) (n l : ℕ) → n ≡ 2 ^ h.p → l ≡ size h → edges_place h + h.states * n * (h.q + 7) ≤ 8 * l
edges-end h n l e f =
    let g : bit_count h ≤ 8 * l = rw f (size_holds (bit_count h)) in
    let m : h.states * n * (h.q + 7) ≡ h.states * (2 ^ h.p * (h.q + 7)) = rw e
    (mul_assoc h.states (2 ^ h.p) (h.q + 7)) in
    omega arith

-- the words and the next states of all edges lie within the record
module _ (h : Head) (n l : ℕ) (r : Small h) (e : n ≡ 2 ^ h.p) (f : l ≡ size h) where
  pub reach-words : Reach (8 * l) n (h.states * n) (edges_place h) (h.q + 7) h.q
  reach-words = record {
    some = rw e (pow_pos h.p);
    few = rw e (ways-small h.p r.p₂);
    states = mul-le-mul_right n r.s₂;
    width = r.q₂;
    apart = omega (arith, r.q₂);
    first = omega (arith, r.k₂);
    last = omega (arith, edges-end h n l e f);
  }

  pub reach-nexts : Reach (8 * l) n (h.states * n) (edges_place h + h.q) (h.q + 7) 7
  reach-nexts = record {
    some = rw e (pow_pos h.p);
    few = rw e (ways-small h.p r.p₂);
    states = mul-le-mul_right n r.s₂;
    width = lit≤ tt;
    apart = omega (arith, r.q₂);
    first = omega (arith, r.k₂, r.q₂);
    last = omega (arith, edges-end h n l e f);
  }
