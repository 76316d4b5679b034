-- The state to split: there is one, of greatest weight, with more than n edges.
-- In order: greatest-ge, greatest-at, total-le, total-lt, ripe-some, Chosen, chosen_is.
-- Assumes nothing.
use Rattle.std.proofs.Common.{◌≡◌, ◌∷◌, ◌+◌, ◌*◌, ◌≤◌, ◌<◌}
use Rattle.laws.proofs.All.{refl, sym, ◌∙◌, inl, inr, Bool, true, false, List, [], ℕ, zero, suc}
use Rattle.laws.proofs.All.{zero-le, suc-le-suc, not-suc-le-zero, le_trans, le_of_eq, mul_comm}
use Rattle.laws.proofs.All.{le_of_mul-le-mul_right, lt_of_mul-lt-mul_right, le-max_left, le-max_right, max-eq_left}
use Rattle.laws.proofs.All.{max-eq_right, arith, dec_le, T, eqb, eqb→eq, eqb_refl, ltb→lt, length, get_or, range}
use Rattle.laws.proofs.All.{any, and→, →and, or→, any-below→, →any-below, Each, each_map, each-always, each_both}
use Rattle.laws.proofs.All.{filter-each, each-any, first_passes, tot-le, tot-const, each-range, each-for, dec_lt}
use Rattle.laws.proofs.All.{lt→ltb}
use Rattle.compile_graph.specs.Invariant.{Inside, Stays, Inv}
use Rattle.compile_graph.specs.Arcs.{Arc, Work, leaves, out}
use Rattle.compile_graph.specs.Weights.{weight, total}
use Rattle.compile_graph.specs.Splitting.{greatest, lighter, splittable, chosen, few_edges, unfinished}

pub greatest-ge : (v : List ℕ) (i : ℕ) → get_or v i 0 ≤ greatest v
greatest-ge [] i = zero-le
greatest-ge (x ∷ v) zero = le-max_left x (greatest v)
greatest-ge (x ∷ v) (suc i) = le_trans (greatest-ge v i) (le-max_right x (greatest v))

pub greatest-at : (v : List ℕ) → 0 < length v → (i : ℕ) × (i < length v) × (get_or v i 0 ≡ greatest v)
greatest-at [] h = absurd (not-suc-le-zero h)
greatest-at (x ∷ []) h = (0, suc-le-suc zero-le, omega arith)
greatest-at (x ∷ y ∷ v) h = go (dec_le (greatest (y ∷ v)) x) (greatest-at (y ∷ v) (suc-le-suc zero-le))
  where
    go : Dec (greatest (y ∷ v) ≤ x) → (i : ℕ) × (i < length (y ∷ v)) × (get_or (y ∷ v) i 0 ≡ greatest (y ∷ v))
        → (i : ℕ) × (i < length (x ∷ y ∷ v)) × (get_or (x ∷ y ∷ v) i 0 ≡ greatest (x ∷ y ∷ v))
    go (yes l) r = (0, suc-le-suc zero-le, sym (max-eq_left l))
    go (no l) (i, k, q) = (suc i, suc-le-suc k, q ∙ sym (max-eq_right (omega arith)))

-- sums against the greatest weight
pub total-le : (v : List ℕ) (es : List Arc) → total v es ≤ length es * greatest v
total-le v es = le_trans (tot-le (weight v) (λ e. greatest v) es (each-always _ (λ e. greatest-ge v e.target) es))
    (le_of_eq (tot-const (greatest v) es))

pub total-lt : (v : List ℕ) (es : List Arc) → T (any (lighter v (greatest v)) es)
    → total v es < length es * greatest v
total-lt v [] t = absurd t
total-lt v (e ∷ es) t = elim (or→ (lighter v (greatest v) e) (any (lighter v (greatest v)) es) t) [
  | inl u ↦ rw (sucs (length es)) (omega (arith, ltb→lt (weight v e) (greatest v) u, total-le v es))
  | inr u ↦ rw (sucs (length es)) (omega (arith, (total-lt v es) u, greatest-ge v e.target))
]
  where
    sucs : (k : ℕ) → suc k * greatest v ≡ greatest v + k * greatest v
    sucs k = omega arith

module _ (n S : ℕ) (x : Work) (I : Inv n S x) where
  abbrev v : List ℕ
  v = x.weights

  abbrev g : List Arc
  g = x.arcs

  -- an edge to a lighter state makes its source ripe
  seen : Each (λ e. (s : ℕ) → T (leaves s e) → T (lighter v (greatest v) e)
      → T (any (lighter v (greatest v)) (out g s))) g
  seen = each-for _ g (λ s. filter-each
      (λ e. T (lighter v (greatest v) e) → T (any (lighter v (greatest v)) (out g s))) (leaves s) g
      (each-any (lighter v (greatest v)) (out g s)))

  -- if no state is ripe, the heaviest are closed
  stays : (T (any (splittable v g) (range (length v))) → ⊥) → Each (Stays (λ s. eqb (get_or v s 0) (greatest v))) g
  stays h = each_map _ (Stays (λ s. eqb (get_or v s 0) (greatest v))) step g
      (each_both (Inside (length v)) _ g I.inside seen)
    where
      step : (e : Arc) → Inside (length v) e
          × ((s : ℕ) → T (leaves s e) → T (lighter v (greatest v) e) → T (any (lighter v (greatest v)) (out g s)))
          → Stays (λ s. eqb (get_or v s 0) (greatest v)) e
      step e (i, f) t = elim (dec_lt (weight v e) (greatest v)) [
        | yes q ↦ absurd (h (→any-below (splittable v g) (length v) e.source i.0
            (→and (eqb (get_or v e.source 0) (greatest v)) (any (lighter v (greatest v)) (out g e.source)) t
            (f e.source (eqb_refl e.source) (lt→ltb (weight v e) (greatest v) q)))))
        | no q ↦ let m : weight v e ≡ greatest v = omega (arith, greatest-ge v e.target) in
            rw m (eqb_refl (greatest v))
      ]

  -- some state of greatest weight has an edge to a lighter one
  pub ripe-some : T (unfinished n x) → T (any (splittable v g) (range (length v)))
  ripe-some t = go (any (splittable v g) (range (length v))) refl (any-below→ (few_edges n g) (length v) t)
    where
      go : (b : Bool) → any (splittable v g) (range (length v)) ≡ b → (i : ℕ) × (i < length v) × T (few_edges n g i)
          → T b
      go true q r = tt
      go false q (i, h, u) =
          let (m, hm, em) = greatest-at v (omega arith) in
          let e : get_or v i 0 ≡ greatest v = eqb→eq (get_or v i 0) (greatest v)
          (I.joined (λ s. eqb (get_or v s 0) (greatest v)) (stays (λ k. rw q at k)) m hm
          (rw em (eqb_refl (greatest v))) i h) in
          let few : length (out g i) < n = ltb→lt (length (out g i)) n u in
          let a : greatest v * n ≤ total v (out g i) = rw e at (I.enough i h) in
          let pos : 0 < greatest v = rw e at (I.positive i h) in
          let r : n ≤ length (out g i) =
          le_of_mul-le-mul_right {k = greatest v} (le_trans (le_of_eq (mul_comm n (greatest v)))
          (le_trans a (total-le v (out g i)))) pos in
          absurd (omega arith)

  pub record Chosen (s : ℕ) : Type 0 where
    pub state : s < length x.weights
    pub heavy : get_or x.weights s 0 ≡ greatest x.weights
    pub light : T (any (lighter x.weights (greatest x.weights)) (out x.arcs s))
    pub many : n < length (out x.arcs s)

  -- the state that the rule names has more than n edges
  pub chosen_is : T (unfinished n x) → Chosen (chosen x.weights x.arcs)
  chosen_is t =
      let s = chosen v g in
      let (r, h) = first_passes (splittable v g) 0 (λ s. s < length v) (range (length v)) (ripe-some t)
      (each-range (length v)) in
      let (a, b) = and→ (eqb (get_or v s 0) (greatest v)) (any (lighter v (greatest v)) (out g s)) r in
      let e : get_or v s 0 ≡ greatest v = eqb→eq (get_or v s 0) (greatest v) a in
      let c : greatest v * n ≤ total v (out g s) = rw e at (I.enough s h) in
      let d : n * greatest v < length (out g s) * greatest v =
      rw (mul_comm n (greatest v)) (omega (arith, total-lt v (out g s) b)) in
      record { state = h; heavy = e; light = b; many = lt_of_mul-lt-mul_right (greatest v) d }
