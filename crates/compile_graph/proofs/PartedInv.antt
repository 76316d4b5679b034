-- Parting a state keeps the invariant, given what the choice of the run must bring.
-- In order: count-out, parted-length, parted-inv.
-- Assumes nothing.
use Rattle.std.proofs.Common.{◌≡◌, ◌+◌, ◌*◌, ◌-◌, ◌≤◌, ◌<◌}
use Rattle.laws.proofs.All.{ap, ◌∙◌, List, ℕ, suc, le_refl, le_trans, le_of_eq}
use Rattle.laws.proofs.All.{mul-le-mul_right, add-mul, arith, dec_lt, eqb, length, get_or, Whether, so, nay, eqb_is}
use Rattle.laws.proofs.All.{Each, one, each_map, tot-filter-le}
use Rattle.compile_graph.specs.Invariant.{count, Inv, Part}
use Rattle.compile_graph.specs.Arcs.{Arc, Work, leaves, out}
use Rattle.compile_graph.specs.Weights.{total}
use Rattle.compile_graph.specs.Splitting.{same, parted}
use Rattle.compile_graph.proofs.Parted.{weights', length', w-old, w-new, w-other, sum'}
use Rattle.compile_graph.proofs.PartedSums.{shifted, shifted-other, shifted-old, shifted-both, doubled-tot}
use Rattle.compile_graph.proofs.PartedDistinct.{shifted-inside, doubled-inside, parted-distinct}
use Rattle.compile_graph.proofs.PartedJoined.{parted-joined}

data Which (s K y : ℕ) : Type 0 where
  old : y ≡ s → Which s K y
  new : y ≡ K → Which s K y
  another : y < K → (y ≡ s → ⊥) → Which s K y

which : (s K y : ℕ) → y < suc K → Which s K y
which s K y h = go (eqb_is y s) (dec_lt y K)
  where
    go : Whether (y ≡ s) (eqb y s) → Dec (y < K) → Which s K y
    go (so p q) d = old p
    go (nay p q) (yes l) = another l p
    go (nay p q) (no l) = new (omega arith)

pub count-out : (g : List Arc) (s : ℕ) (e : Arc) → count e (out g s) ≤ count e g
count-out g s e = tot-filter-le (one (same e)) (leaves s) g

module _ (n S : ℕ) (x : Work) (s : ℕ) (keep : List Arc) (w : ℕ) (hn : 0 < n) (I : Inv n S x)
    (p : Part n x s keep w) where
  abbrev v : List ℕ
  v = x.weights

  abbrev g' : List Arc
  g' = shifted x.weights x.arcs keep s p.state

  abbrev v' : List ℕ
  v' = weights' x.weights s w p.state

  positive' : (y : ℕ) → y < suc (length v) → 0 < get_or v' y 0
  positive' y h = elim (which s (length v) y h) [
    | old q ↦ rw (q, w-old v s w p.state) p.some
    | new q ↦ rw (q, w-new v s w p.state) (omega (arith, p.less))
    | another l q ↦ rw (w-other v s w p.state y l q) (I.positive y l)
  ]

  -- what the moved edges of a state lead to
  enough' : (y : ℕ) → y < suc (length v) → get_or v' y 0 * n ≤ total v (out g' y)
  enough' y h = elim (which s (length v) y h) [
    | old q ↦ rw (q, w-old v s w p.state, kept-sum) (le_refl (w * n))
    | new q ↦ let d = get_or v s 0 - w in
        let a : get_or v s 0 ≡ w + d = omega (arith, p.less) in
        let b : get_or v s 0 * n ≡ w * n + d * n = ap (λ k. k * n) a ∙ add-mul w d n in
        let c : total v (out g' s) + total v (out g' (length v)) ≡ total v (out x.arcs s) =
        shifted-both v x.arcs keep s p.state I.inside in
        let e : get_or v s 0 * n ≤ total v (out x.arcs s) = I.enough s p.state in
        rw (q, w-new v s w p.state) (omega (arith, kept-sum))
    | another l q ↦ rw (w-other v s w p.state y l q, shifted-other v x.arcs keep s p.state y l q)
        (I.enough y l)
  ]
    where
      kept-sum : total v (out g' s) ≡ w * n
      kept-sum = shifted-old v x.arcs keep s p.state p.own
          (λ e. le_trans (count-out x.arcs s e) (I.distinct e)) ∙ p.exact

  tight : Each (λ e. e.target < length v) g'
  tight = each_map _ (λ e. e.target < length v) (λ e h. h.1) g'
      (shifted-inside s (length v) keep x.arcs I.inside)

  pub parted-length : length (parted s keep w x).weights ≡ suc (length x.weights)
  parted-length = length' v s w p.state

  some-edge : (y : ℕ) → y < suc (length v) → 0 < total v (out g' y)
  some-edge y h = le_trans (pos (get_or v' y 0) (positive' y h)) (enough' y h)
    where
      pos : (a : ℕ) → 0 < a → 0 < a * n
      pos a k = le_trans hn (le_trans (le_of_eq (omega arith)) (mul-le-mul_right n k))

  pub parted-inv : Inv n S (parted s keep w x)
  parted-inv =
      let len : length (parted s keep w x).weights ≡ suc (length v) = parted-length in
      record {
        positive = λ y h. positive' y (rw len at h);
        whole = sum' v s w p.state (omega (arith, p.less)) ∙ I.whole;
        inside = rw len (doubled-inside s (length v) g' (shifted-inside s (length v) keep x.arcs I.inside));
        enough = λ y h. rw (doubled-tot v s w p.state (omega (arith, p.less)) g' tight y)
            (enough' y (rw len at h));
        distinct = parted-distinct s (length v) keep x.arcs I.inside I.distinct;
        joined = rw len (parted-joined s (length v) keep x.arcs v p.state I.joined tight some-edge);
      }
