-- Parting a state: the graph stays irreducible.
-- In order: parted-joined.
-- Assumes nothing.
use Rattle.std.proofs.Common.{◌≡◌, ◌&&◌, ◌<◌, if◌then◌else◌}
use Rattle.laws.proofs.All.{refl, subst, Bool, List, map, ℕ, suc, arith, dec_lt, T, eqb, eq-eqb}
use Rattle.laws.proofs.All.{filter, and→, →and, so, nay, eqb_is, Each, tot, mask, each_map}
use Rattle.laws.proofs.All.{each_both, each-front, each_back, filter-each, image-each, tot-filter, tot-some}
use Rattle.compile_graph.specs.Invariant.{Stays, Joined}
use Rattle.compile_graph.specs.Arcs.{Arc, leaves, enters, out}
use Rattle.compile_graph.specs.Weights.{weight, total}
use Rattle.compile_graph.specs.Splitting.{moved, redirected, doubled}
use Rattle.compile_graph.proofs.PartedSums.{goes, stays, fate}

module _ (s K : ℕ) (keep g : List Arc) (hs : s < K) (Q : ℕ → Bool) where
  -- the set before the parting: s is in it if both parts are in Q
  abbrev merged : ℕ → Bool
  merged x = if eqb x s then Q s && Q K else Q x

  merged-at : (x : ℕ) → T (Q x) × (x ≡ s → T (Q K)) → T (merged x)
  merged-at x (t, f) = elim (eqb_is x s) [ so p q ↦ rw q (→and (Q s) (Q K) (rw p at t) (f p)) | nay p q ↦ rw q t ]

  at-merged : (x : ℕ) → T (merged x) → T (Q x) × (x ≡ s → T (Q K))
  at-merged x t = elim (eqb_is x s) [
    | so p q ↦ let (a, b) = and→ (Q s) (Q K) (rw q at t) in (rw p a, λ r. b)
    | nay p q ↦ (rw q at t, λ r. absurd (p r))
  ]

  module _ (closed : Each (Stays Q) (doubled s K (map (moved s K keep) g))) where
    abbrev Both : Arc → Type 0
    Both e = T (Q e.source) → T (Q e.target) × (e.target ≡ s → T (Q K))

    -- a moved edge from Q leads into Q, and to both parts if it leads to s
    moved-both : Each Both (map (moved s K keep) g)
    moved-both =
        let g' = map (moved s K keep) g in
        each_map (λ e. Stays Q e × (T (enters s e) → Stays Q (redirected K e))) Both
        (λ e h t. (h.0 t, λ p. h.1 (rw (eq-eqb e.target s p) tt) t)) g'
        (each_both (Stays Q) (λ e. T (enters s e) → Stays Q (redirected K e)) g'
        (each-front (Stays Q) g' (map (redirected K) (filter (enters s) g')) closed)
        (filter-each (λ e. Stays Q (redirected K e)) (enters s) g'
        (image-each (Stays Q) (redirected K) (filter (enters s) g')
        (each_back (Stays Q) g' (map (redirected K) (filter (enters s) g')) closed))))

    merged-stays : (e : Arc) → Both (moved s K keep e) → Stays merged e
    merged-stays e b t = elim (fate s K keep e) [
      | goes p u q ↦ merged-at e.target (subst Both q b ((at-merged e.source t).1 p))
      | stays u q ↦ merged-at e.target (subst Both q b (at-merged e.source t).0)
    ]

    merged-closed : Each (Stays merged) g
    merged-closed = each_map (λ e. Both (moved s K keep e)) (Stays merged) merged-stays g
        (image-each Both (moved s K keep) g moved-both)

    -- a state of Q with a moved edge gives a member of the set before
    member : (v : List ℕ) → Each (λ e. e.target < K) (map (moved s K keep) g) → (x : ℕ) → T (Q x)
        → 0 < total v (out (map (moved s K keep) g) x) → (y : ℕ) × (y < K) × T (merged y)
    member v i x t h =
        let g' = map (moved s K keep) g in
        let h' : 0 < tot (mask (leaves x) (weight v)) g' = rw (← tot-filter (weight v) (leaves x) g') h in
        let (e, p, (b, l)) = tot-some (mask (leaves x) (weight v)) (λ e. Both e × (e.target < K)) g' h'
        (each_both Both (λ e. e.target < K) g' moved-both i) in elim (eqb_is e.source x) [
          | so r q ↦ (e.target, l, merged-at e.target (b (rw r t)))
          | nay r q ↦ absurd (let z : mask (leaves x) (weight v) e ≡ 0 = rw q in omega arith)
        ]

pub parted-joined : (s K : ℕ) (keep g : List Arc) (v : List ℕ) → s < K → Joined K g
    → Each (λ e. e.target < K) (map (moved s K keep) g)
    → ((x : ℕ) → x < suc K → 0 < total v (out (map (moved s K keep) g) x))
    → Joined (suc K) (doubled s K (map (moved s K keep) g))
parted-joined s K keep g v hs j i some Q closed x hx tx y hy =
    let (z, hz, tz) = member s K keep g hs Q closed v i x tx (some x hx) in
    let full : (y : ℕ) → y < K → T (merged s K keep g hs Q y) =
    j (merged s K keep g hs Q) (merged-closed s K keep g hs Q closed) z hz tz in
    go full (dec_lt y K)
  where
    go : ((y : ℕ) → y < K → T (merged s K keep g hs Q y)) → Dec (y < K) → T (Q y)
    go full (yes h) = (at-merged s K keep g hs Q y (full y h)).0
    go full (no h) = let p : y ≡ K = omega arith in rw p ((at-merged s K keep g hs Q s (full s hs)).1 refl)
