-- The component with its weights, renumbered, has what splitting needs.
-- In order: K, L, gl, reach, inside-l, in-K, s, s-is, C, start-C, closed-C, C-live, C-once, closed-g, heft, v',
-- v'-length, in_both, started-inv.
-- Assumes nothing.
use Rattle.std.proofs.Common.{◌≡◌, ◌*◌, ◌≤◌, ◌<◌}
use Rattle.laws.proofs.All.{refl, ap, ◌∙◌, Bool, List, map, ℕ, zero, suc, zero-le, suc-le-suc}
use Rattle.laws.proofs.All.{le_refl, le_trans, T, eqb, ltb→lt, lt→ltb, eq-eqb, length, get_or, length-map, range, sum}
use Rattle.laws.proofs.All.{first, elem, index_of, and→, →and, Whether, so, nay, eqb_is, T→true, get_or-map-lt, Each}
use Rattle.laws.proofs.All.{tot, mask, one, times, each_map, each-always, each_both, each-filter, filter-each}
use Rattle.laws.proofs.All.{first_passes, each-image, image-each, tot-filter, tot-le, tot-map, each-range}
use Rattle.laws.proofs.All.{each-elem, elem-filter, →elem-filter, each_at, elem-range, range-once, tot-filter-le}
use Rattle.laws.proofs.All.{index-lt, at-index, index_at}
use Rattle.compile_graph.proofs.Arcs.{arc-eq, image-count}
use Rattle.compile_graph.specs.Invariant.{count, Inside, Stays, Joined, Inv}
use Rattle.compile_graph.specs.Arcs.{Arc, arc, leaves, out}
use Rattle.compile_graph.specs.Weights.{weight, total}
use Rattle.compile_graph.specs.Splitting.{same}
use Rattle.compile_graph.specs.Component.{reachings, reaches, returning, both, within, renamed, renumbered}
use Rattle.compile_graph.specs.Component.{weighs}
use Rattle.compile_graph.specs.Component.{live, component_states, component_graph}
use Rattle.compile_graph.proofs.Reach.{reaches-is}
use Rattle.compile_graph.proofs.Component.{good-some, start-in, C-closed, C-joined}

module _ (v : List ℕ) (g : List Arc) (i : Each (Inside (length v)) g) (z : ℕ) (ez : T (elem z (live v))) where
  abbrev pub K : ℕ
  K = length v

  abbrev pub L : List ℕ
  L = live v

  abbrev pub gl : List Arc
  gl = within L g

  abbrev pub reach : ℕ → ℕ → Bool
  reach = reaches (reachings K gl)

  pub inside-l : Each (Inside K) gl
  inside-l = each-filter (Inside K) (both L) g (each_map (Inside K) _ (λ e h t. h) g i)

  pub in-K : Each (λ s. s < K) L
  in-K = each-filter (λ s. s < K) (weighs v) (range K) (each_map (λ s. s < K) _ (λ s h t. h) (range K) (each-range K))

  stay : Each (λ e. T (elem e.target L)) gl
  stay = each-filter (λ e. T (elem e.target L)) (both L) g
      (each-always _ (λ e t. (and→ (elem e.source L) (elem e.target L) t).1) g)

  -- the lowest state that all reachable states reach back
  abbrev pub s : ℕ
  s = first (returning (reachings K gl) L) 0 L

  pub s-is : T (returning (reachings K gl) L s) × T (elem s L)
  s-is = first_passes (returning (reachings K gl) L) 0 (λ s. T (elem s L)) L
      (good-some K L gl reach (reaches-is K gl) inside-l in-K z ez) (each-elem L)

  abbrev pub C : List ℕ
  C = component_states v g

  pub start-C : T (elem s C)
  unfolding component_states component_graph
  start-C = start-in K L gl reach (reaches-is K gl) inside-l in-K s s-is.1 s-is.0 stay

  pub closed-C : Each (λ e. T (elem e.source C) → T (elem e.target C)) gl
  unfolding component_states component_graph
  closed-C = C-closed K L gl reach (reaches-is K gl) inside-l in-K s s-is.1 s-is.0 stay

  joined-C : (Q : ℕ → Bool) → Each (λ e. T (elem e.source C) → Stays Q e) gl → (x y : ℕ) → T (elem x C)
      → T (elem y C) → T (Q x) → T (Q y)
  unfolding component_states component_graph
  joined-C = C-joined K L gl reach (reaches-is K gl) inside-l in-K s s-is.1 s-is.0 stay

  pub C-live : (x : ℕ) → T (elem x C) → T (elem x L)
  unfolding component_states component_graph
  C-live x t = (elem-filter (reach s) x L t).1

  -- no state twice
  pub C-once : (x : ℕ) → times x C ≤ 1
  unfolding component_states component_graph
  C-once x = le_trans (tot-filter-le (one (eqb x)) (reach s) L)
      (le_trans (tot-filter-le (one (eqb x)) (weighs v) (range K)) (range-once x K))

  -- an edge from the component to a state of weight above 0 stays in it
  pub closed-g : Each (λ e. T (elem e.source C) → 0 < weight v e → T (elem e.target C)) g
  closed-g =
      each_map _ (λ e. T (elem e.source C) → 0 < weight v e → T (elem e.target C)) go g
      (each_both (Inside K) _ g i
      (filter-each (λ e. T (elem e.source C) → T (elem e.target C)) (both L) g closed-C))
    where
      go : (e : Arc) → Inside K e × (T (both L e) → T (elem e.source C) → T (elem e.target C))
          → T (elem e.source C) → 0 < weight v e → T (elem e.target C)
      go e (h, f) t w =
          f (→and (elem e.source L) (elem e.target L) (C-live e.source t)
          (→elem-filter (weighs v) e.target (range K) (elem-range K e.target h.1)
          (lt→ltb 0 (weight v e) w))) t

  -- ---- renumbered
  abbrev pub heft : ℕ → ℕ
  heft s = get_or v s 0

  abbrev pub v' : List ℕ
  v' = map heft C

  pub v'-length : length v' ≡ length C
  v'-length = length-map C heft

  v'-at : (x : ℕ) → T (elem x C) → get_or v' (index_of x C) 0 ≡ get_or v x 0
  v'-at x t = get_or-map-lt heft C (index_of x C) 0 0 (index-lt x C t) ∙ ap heft (at-index x C t)

  positive' : (j : ℕ) → j < length C → 0 < get_or v' j 0
  positive' j h =
      rw (get_or-map-lt heft C j 0 0 h)
      (ltb→lt 0 (get_or v (get_or C j 0) 0)
      (elem-filter (weighs v) (get_or C j 0) (range K)
      (C-live (get_or C j 0) (each_at (λ x. T (elem x C)) 0 C (each-elem C) j h))).0)

  pub in_both : Each (λ e. T (elem e.source C) × T (elem e.target C)) (within C g)
  in_both = each-filter (λ e. T (elem e.source C) × T (elem e.target C)) (both C) g
      (each-always _ (λ e t. and→ (elem e.source C) (elem e.target C) t) g)

  inside' : Each (Inside (length C)) (renumbered C g)
  inside' =
      each-image (Inside (length C)) (renamed C) (within C g)
      (each_map _ (λ e. Inside (length C) (renamed C e))
      (λ e h. (index-lt e.source C h.0, index-lt e.target C h.1)) (within C g) in_both)

  -- an edge of the renumbered graph comes from one edge
  distinct' : ((e : Arc) → count e g ≤ 1) → (e : Arc) → count e (renumbered C g) ≤ 1
  distinct' d e =
      let e' = arc (get_or C e.source 0) e.word (get_or C e.target 0) in
      le_trans (image-count (renamed C) e e' (within C g)
      (each_map _ _ (λ f h p. arc-eq (cc (at-index f.source C h.0)) (cc)
      (cc (at-index f.target C h.1))) (within C g) in_both))
      (le_trans (tot-filter-le (one (same e')) (both C) g) (d e'))

  enough' : (n j : ℕ) → j < length C → get_or v (get_or C j 0) 0 * n ≤ total v (out g (get_or C j 0))
      → get_or v' j 0 * n ≤ total v' (out (renumbered C g) j)
  enough' n j h w =
      rw (get_or-map-lt heft C j 0 0 h, sums)
      (le_trans w (rw (tot-filter (weight v) (leaves x) g)
      (tot-le (mask (leaves x) (weight v)) (mask (both C) F) g (each_map _ _ point g closed-g))))
    where
      x : ℕ
      x = get_or C j 0

      F : Arc → ℕ
      F e = mask (leaves j) (weight v') (renamed C e)

      sums : total v' (out (renumbered C g) j) ≡ tot (mask (both C) F) g
      sums = tot-filter (weight v') (leaves j) (renumbered C g)
          ∙ tot-map (mask (leaves j) (weight v')) (renamed C) (within C g) ∙ tot-filter F (both C) g

      x-in : T (elem (get_or C j 0) C)
      x-in = each_at (λ x. T (elem x C)) 0 C (each-elem C) j h

      point : (e : Arc) → (T (elem e.source C) → 0 < weight v e → T (elem e.target C))
          → mask (leaves (get_or C j 0)) (weight v) e ≤ mask (both C) F e
      point e f = go (eqb_is e.source (get_or C j 0)) (weight v e) refl
        where
          go : Whether (e.source ≡ get_or C j 0) (eqb e.source (get_or C j 0)) → (k : ℕ) → weight v e ≡ k
              → mask (leaves (get_or C j 0)) (weight v) e ≤ mask (both C) F e
          go (nay p q) k r = rw q zero-le
          go (so p q) zero r = rw (q, r) zero-le
          go (so p q) (suc k) r =
              let es : T (elem e.source C) = rw p x-in in
              let et : T (elem e.target C) = f es (rw r (suc-le-suc zero-le)) in
              let a : index_of e.source C ≡ j = ap (λ x. index_of x C) p ∙ index_at C C-once j h in
              let b : F e ≡ weight v e = rw (eq-eqb (index_of e.source C) j a) (v'-at e.target et) in
              rw (q, T→true (both C e) (→and (elem e.source C) (elem e.target C) es et), b)
              (le_refl (weight v e))

  joined' : Joined (length C) (renumbered C g)
  joined' Q c a ha qa b hb =
      rw (index_at C C-once b hb) at
      (joined-C (λ x. Q (index_of x C)) closed (get_or C a 0) (get_or C b 0) (member a ha) (member b hb)
      (rw (index_at C C-once a ha) qa))
    where
      member : (j : ℕ) → j < length C → T (elem (get_or C j 0) C)
      member j h = each_at (λ x. T (elem x C)) 0 C (each-elem C) j h

      all-g : Each (λ e. T (both C e) → Stays Q (renamed C e)) g
      all-g = filter-each (λ e. Stays Q (renamed C e)) (both C) g (image-each (Stays Q) (renamed C) (within C g) c)

      closed : Each (λ e. T (elem e.source C) → Stays (λ x. Q (index_of x C)) e) gl
      closed =
          each_map _ (λ e. T (elem e.source C) → Stays (λ x. Q (index_of x C)) e)
          (λ e h t. h.1 (→and (elem e.source C) (elem e.target C) t (h.0 t))) gl
          (each_both _ (λ e. T (both C e) → Stays Q (renamed C e)) gl closed-C
          (each-filter (λ e. T (both C e) → Stays Q (renamed C e)) (both L) g
          (each_map (λ e. T (both C e) → Stays Q (renamed C e)) _ (λ e h t. h) g all-g)))

  pub started-inv : (n : ℕ) → ((e : Arc) → count e g ≤ 1) → ((s : ℕ) → get_or v s 0 * n ≤ total v (out g s))
      → Inv n (sum (component_graph v g).weights) (component_graph v g)
  unfolding component_states component_graph
  started-inv n d enough =
      record {
        positive = λ j h. positive' j (rw v'-length at h);
        whole = refl;
        inside = rw v'-length inside';
        enough = λ j h. enough' n j (rw v'-length at h) (enough (get_or C j 0));
        distinct = distinct' d;
        joined = rw v'-length joined';
      }
