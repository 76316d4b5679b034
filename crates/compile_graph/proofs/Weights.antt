-- Weights: the greatest vector with A v ≥ n v and entries up to cap.
-- In order: enough-total, weights-length, weights-fixed, weights-enough, weights-greatest, weights-cap; passing-exact,
-- still-meets.
-- Assumes nothing.
use Rattle.std.proofs.Common.{◌≡◌, ◌⊎◌, ◌∷◌, ◌*◌, ◌/◌, ◌≤◌, ◌<◌, ◌↔◌, ◌&&◌}
use Rattle.laws.proofs.All.{refl, sym, ap, ap₂, ◌∙◌, inl, inr, List, [], ℕ, zero, suc}
use Rattle.laws.proofs.All.{zero-le, min, le_of_suc-le-suc, not-suc-le-zero, le_trans, le_of_eq, add-le-add}
use Rattle.laws.proofs.All.{min-le_left, le-min, zero-min, le-div_iff_mul-le, arith, dec_lt, length, get_or}
use Rattle.laws.proofs.All.{length-map, replicate, length-replicate, get_or-eq_default, get_or-replicate, range}
use Rattle.laws.proofs.All.{sum, sum-replicate, length_from, map-range-at, iterate-keeps, settles, tot-le}
use Rattle.laws.proofs.All.{each-always, min-le_right, min-eq_left, zero-mul, T, ltb→lt, lt→ltb, leb→le}
use Rattle.laws.proofs.All.{le→leb, any, all, and→, →and, all-below→, →all-below, any-below→, →any-below}
use Rattle.compile_graph.specs.Arcs.{Arc, out}
use Rattle.compile_graph.specs.Weights.{lower, lowered, weights, Enough, AtMost, product, total, weight, low}
use Rattle.compile_graph.specs.Weights.{meets}
use Rattle.compile_graph.specs.Weights.{weighty, passing, Passing}
use Rattle.compile_graph.proofs.Exchange.{exchange}

product-mono : (u v : List ℕ) → AtMost u v → (g : List Arc) (s : ℕ) → product g u s ≤ product g v s
product-mono u v h g s =
    rw (← exchange u g s, ← exchange v g s)
    (tot-le (weight u) (weight v) (out g s) (each-always _ (λ e. h e.target) (out g s)))

-- an entry that meets the inequality is not lowered past
lower-keeps : (n : ℕ) (g : List Arc) (u v : List ℕ) → 0 < n → Enough n g u → AtMost u v
    → (s : ℕ) → get_or u s 0 ≤ lower n g v s
lower-keeps n g u v p e h s =
    le-min (h s) ((le-div_iff_mul-le p).1 (le_trans (e s) (product-mono u v h g s)))

-- the inequality, by the edges
pub enough-total : (n : ℕ) (g : List Arc) (v : List ℕ) → Enough n g v → (s : ℕ) → get_or v s 0 * n ≤ total v (out g s)
enough-total n g v e s = rw (exchange v g s) (e s)

lowered-length : (n : ℕ) (g : List Arc) (v : List ℕ) → length (lowered n g v) ≡ length v
lowered-length n g v = length-map (range (length v)) (lower n g v) ∙ length_from 0 (length v)

-- one entry of one round
lowered-at : (n : ℕ) (g : List Arc) (v : List ℕ) (i : ℕ) → get_or (lowered n g v) i 0 ≡ lower n g v i
lowered-at n g v i = elim (dec_lt i (length v)) [
  | yes h ↦ map-range-at (lower n g v) (length v) i 0 h
  | no h ↦ let a : get_or (lowered n g v) i 0 ≡ 0 =
      get_or-eq_default (lowered n g v) 0 {n = i} (rw (lowered-length n g v) (omega arith)) in
      let b : get_or v i 0 ≡ 0 = get_or-eq_default v 0 {n = i} (omega arith) in
      a ∙ sym (rw b (zero-min (product g v i / n)))
]

-- lists of one length, one below the other: equal, or less in sum
sum_mono : (w v : List ℕ) → length w ≡ length v → AtMost w v → sum w ≤ sum v
sum_mono [] v l h = zero-le
sum_mono (x ∷ w) [] l h = absurd (omega arith)
sum_mono (x ∷ w) (y ∷ v) l h = add-le-add (h 0) (sum_mono w v (omega arith) (λ i. h (suc i)))

below_rest : (w v : List ℕ) → length w ≡ length v → AtMost w v → (w ≡ v) ⊎ (sum w < sum v)
below_rest [] [] l h = inl refl
below_rest [] (y ∷ v) l h = absurd (omega arith)
below_rest (x ∷ w) [] l h = absurd (omega arith)
below_rest (x ∷ w) (y ∷ v) l h = go (dec_lt x y) (below_rest w v (omega arith) (λ i. h (suc i)))
  where
    go : Dec (x < y) → (w ≡ v) ⊎ (sum w < sum v) → (x ∷ w ≡ y ∷ v) ⊎ (sum (x ∷ w) < sum (y ∷ v))
    go (yes k) r = inr (omega (arith, sum_mono w v (omega arith) (λ i. h (suc i))))
    go (no k) (inl e) = inl (ap₂ (λ a b. a ∷ b) (omega (arith, h 0)) e)
    go (no k) (inr m) = inr (omega (arith, h 0))

module _ (n : ℕ) (g : List Arc) where
  lowered-below : (v : List ℕ) → AtMost (lowered n g v) v
  lowered-below v i = rw (lowered-at n g v i) (min-le_left (get_or v i 0) (product g v i / n))

  pub weights-length : (cap K : ℕ) → length (weights n cap K g) ≡ K
  unfolding weights
  weights-length cap K =
      iterate-keeps (lowered n g) (λ v. length v ≡ K) (λ v e. lowered-length n g v ∙ e) (K * cap) (replicate K cap)
      (length-replicate K cap)

  pub weights-fixed : (cap K : ℕ) → lowered n g (weights n cap K g) ≡ weights n cap K g
  unfolding weights
  weights-fixed cap K =
      settles (lowered n g) sum (λ v. length v ≡ K) (λ v e. lowered-length n g v ∙ e)
      (λ v e. below_rest (lowered n g v) v (lowered-length n g v) (lowered-below v))
      (K * cap) (replicate K cap) (length-replicate K cap) (le_of_eq (sum-replicate K cap))

  pub weights-enough : (cap K : ℕ) → 0 < n → Enough n g (weights n cap K g)
  weights-enough cap K p i =
      let w = weights n cap K g in
      let e : get_or w i 0 ≡ min (get_or w i 0) (product g w i / n) =
      sym (ap (λ v. get_or v i 0) (weights-fixed cap K)) ∙ lowered-at n g w i in
      (le-div_iff_mul-le p).0 (omega arith)

  lowered-keeps : (u v : List ℕ) → 0 < n → Enough n g u → AtMost u v → AtMost u (lowered n g v)
  lowered-keeps u v p e h i =
      rw (lowered-at n g v i) (lower-keeps n g u v p e h i)

  below-caps : (u : List ℕ) (k cap : ℕ) → length u ≤ k → ((i : ℕ) → get_or u i 0 ≤ cap) → AtMost u (replicate k cap)
  below-caps [] k cap l h i = zero-le
  below-caps (x ∷ u) zero cap l h i = absurd (not-suc-le-zero l)
  below-caps (x ∷ u) (suc k) cap l h zero = h 0
  below-caps (x ∷ u) (suc k) cap l h (suc i) = below-caps u k cap (le_of_suc-le-suc l) (λ j. h (suc j)) i

  pub weights-greatest : (cap K : ℕ) (u : List ℕ) → 0 < n → length u ≤ K → ((i : ℕ) → get_or u i 0 ≤ cap) → Enough n g u
      → AtMost u (weights n cap K g)
  unfolding weights
  weights-greatest cap K u p l h e =
      iterate-keeps (lowered n g) (AtMost u) (λ v k. lowered-keeps u v p e k) (K * cap) (replicate K cap)
      (below-caps u K cap l h)

-- no weight is above cap
pub weights-cap : (n : ℕ) (g : List Arc) (cap K : ℕ) (s : ℕ) → get_or (weights n cap K g) s 0 ≤ cap
unfolding weights
weights-cap n g cap K =
    iterate-keeps (lowered n g) (λ v. (s : ℕ) → get_or v s 0 ≤ cap)
    (λ v h s. le_trans (lowered-below n g v s) (h s)) (K * cap) (replicate K cap) capped
  where
    capped : (s : ℕ) → get_or (replicate K cap) s 0 ≤ cap
    capped s = elim (dec_lt s K) [
      | yes h ↦ le_of_eq (get_or-replicate K s cap 0 h)
      | no h ↦ rw (get_or-eq_default (replicate K cap) 0 {n = s} (rw (length-replicate K cap) (omega arith)))
          zero-le
    ]

-- ---- weights that are brought
module _ (n cap : ℕ) (g : List Arc) (v : List ℕ) where
  -- a state that has no weight weighs 0
  there-or : (s : ℕ) → (s < length v) ⊎ (get_or v s 0 ≡ 0)
  there-or s = elim (dec_lt s (length v)) [
    | yes h ↦ inl h
    | no h ↦ inr (get_or-eq_default v 0 {n = s} (omega arith))
  ]

  -- THEOREM: the test of weights says what they must be
  pub passing-exact : T (passing n cap g v) ↔ Passing n cap g v
  unfolding passing
  passing-exact = (there, back)
    where
      S : List ℕ
      S = range (length v)

      there : T (all (low cap v) S && (any (weighty v) S && all (meets n g v) S)) → Passing n cap g v
      there t =
          let (a, u) = and→ (all (low cap v) S) (any (weighty v) S && all (meets n g v) S) t in
          let (b, c) = and→ (any (weighty v) S) (all (meets n g v) S) u in
          let (i, _, p) = any-below→ (weighty v) (length v) b in
          record {
            capped = λ s. elim (there-or s) [
              | inl h ↦ leb→le (get_or v s 0) cap (all-below→ (low cap v) (length v) a s h)
              | inr z ↦ rw z zero-le
            ];
            some = (i, ltb→lt 0 (get_or v i 0) p);
            enough = λ s. elim (there-or s) [
              | inl h ↦ leb→le (get_or v s 0 * n) (product g v s) (all-below→ (meets n g v) (length v) c s h)
              | inr z ↦ le_trans (le_of_eq (ap (λ w. w * n) z ∙ zero-mul n)) zero-le
            ];
          }

      back : Passing n cap g v → T (all (low cap v) S && (any (weighty v) S && all (meets n g v) S))
      back p =
          let (i, h) = p.some in
          →and (all (low cap v) S) (any (weighty v) S && all (meets n g v) S)
          (→all-below (low cap v) (length v) (λ s l. le→leb (get_or v s 0) cap (p.capped s)))
          (→and (any (weighty v) S) (all (meets n g v) S)
          (→any-below (weighty v) (length v) i (within i h (there-or i)) (lt→ltb 0 (get_or v i 0) h))
          (→all-below (meets n g v) (length v) (λ s l. le→leb (get_or v s 0 * n) (product g v s) (p.enough s))))
        where
          within : (i : ℕ) → 0 < get_or v i 0 → (i < length v) ⊎ (get_or v i 0 ≡ 0) → i < length v
          within i h (inl l) = l
          within i h (inr z) = absurd (omega arith)

  -- the inequality holds at a state exactly when lowering leaves its weight
  pub still-meets : 0 < n → (s : ℕ) → (lower n g v s ≡ get_or v s 0) ↔ T (meets n g v s)
  still-meets hn s = (
    (λ e. le→leb (get_or v s 0 * n) (product g v s) ((le-div_iff_mul-le hn).0
        (le_trans (le_of_eq (sym e)) (min-le_right (get_or v s 0) (product g v s / n))))),
    (λ t. min-eq_left ((le-div_iff_mul-le hn).1 (leb→le (get_or v s 0 * n) (product g v s) t))),
  )
