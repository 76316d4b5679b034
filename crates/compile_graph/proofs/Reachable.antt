-- The component by its meaning: the lowest state that all states reachable from it reach back, and what it reaches.
-- In order: reach→, →reach, live-reach; good→, →good; weight→, →weight, lowest; start_first;
-- component-is.
-- Assumes nothing.
use Rattle.std.proofs.Common.{◌≡◌, ◌&&◌, ◌<◌}
use Rattle.laws.proofs.All.{sym, subst, Bool, List, ℕ, zero-le, arith, T, lt→ltb, ltb→lt, length}
use Rattle.laws.proofs.All.{get_or, range, any, first, elem, Each, and→, →and, imp→, →imp, first-filter, each_map}
use Rattle.laws.proofs.All.{each-any, each-always, each_both, each-filter, any-filter, each-elem, elem-each}
use Rattle.laws.proofs.All.{elem-filter, →elem-filter, elem-range, all-each, all_of, first_head, none-lower}
use Rattle.compile_graph.specs.Arcs.{Arc}
use Rattle.compile_graph.specs.Component.{reachings, reaches, returns, returning, both, within, weighs, live}
use Rattle.compile_graph.specs.Component.{component_states}
use Rattle.compile_graph.specs.Invariant.{Inside, Stays}
use Rattle.compile_graph.specs.Reachable.{Reachable, ReachedBack, IsComponent}
use Rattle.compile_graph.proofs.Reach.{reaches-is, reach-trans, reach-edge}
use Rattle.compile_graph.proofs.Component.{good-some}
use Rattle.compile_graph.proofs.Found.{inside-l, in-K, s-is}

module _ (v : List ℕ) (g : List Arc) (i : Each (Inside (length v)) g) (z : ℕ) (ez : T (elem z (live v))) where
  abbrev K : ℕ
  K = length v

  abbrev L : List ℕ
  L = live v

  abbrev gl : List Arc
  gl = within (live v) g

  abbrev reach : ℕ → ℕ → Bool
  reach = reaches (reachings (length v) (within (live v) g))

  abbrev good : ℕ → Bool
  good = returning (reachings (length v) (within (live v) g)) (live v)

  abbrev s : ℕ
  s = first good 0 L

  lt : (x : ℕ) → T (elem x L) → x < K
  lt x t = elem-each (λ x. x < K) x L t (in-K v g i z ez)

  -- the tests say what they mean
  reach→ : (s t : ℕ) → t < K → T (reach s t) → Reachable gl s t
  reach→ s t h u Q c q = (reaches-is K gl).sound t h Q c s u q

  →reach : (s t : ℕ) → s < K → Reachable gl s t → T (reach s t)
  →reach s t h r = r (reach s) closed ((reaches-is K gl).self s h)
    where
      closed : Each (Stays (reach s)) gl
      closed =
          each_map _ (Stays (reach s))
          (λ e h a. reach-trans K gl reach (reaches-is K gl) (inside-l v g i z ez) s e.source e.target
          h.0.0 h.0.1 a h.1) gl
          (each_both (Inside K) _ gl (inside-l v g i z ez)
          (reach-edge K gl reach (reaches-is K gl) (inside-l v g i z ez)))

  -- what a state of weight above 0 reaches has weight above 0
  live-reach : (s t : ℕ) → T (elem s L) → Reachable gl s t → T (elem t L)
  live-reach s t h r = r (λ x. elem x L) closed h
    where
      closed : Each (Stays (λ x. elem x L)) gl
      closed = each-filter (Stays (λ x. elem x L)) (both L) g
          (each-always _ (λ e t a. (and→ (elem e.source L) (elem e.target L) t).1) g)

  good→ : (u : ℕ) → T (elem u L) → T (good u) → ReachedBack gl u
  good→ u h a t r =
      reach→ t u (lt u h) (imp→ (reach u t) (reach t u)
      (elem-each (λ t. T (returns reach u t)) t L (live-reach u t h r) (all-each (returns reach u) L a))
      (→reach u t (lt u h) r))

  →good : (u : ℕ) → T (elem u L) → ReachedBack gl u → T (good u)
  →good u h b = all_of (returns reach u) L
      (each_map (λ t. T (elem t L)) (λ t. T (returns reach u t))
      (λ t k. →imp (reach u t) (reach t u) (λ a. →reach t u (lt t k) (b t (reach→ u t (lt t k) a)))) L (each-elem L))

  weight→ : (u : ℕ) → T (elem u L) → 0 < get_or v u 0
  weight→ u h = ltb→lt 0 (get_or v u 0) (elem-filter (weighs v) u (range K) h).0

  →weight : (u : ℕ) → u < K → 0 < get_or v u 0 → T (elem u L)
  →weight u h w = →elem-filter (weighs v) u (range K) (elem-range K u h) (lt→ltb 0 (get_or v u 0) w)

  lowest : (u : ℕ) → u < s → 0 < get_or v u 0 → ReachedBack gl u → ⊥
  lowest u h w b =
      let k : u < K = omega (arith, lt s (s-is v g i z ez).1) in
      let e = first-filter good (weighs v) 0 (range K) in
      none-lower (λ x. weighs v x && good x) 0 0 K
      (subst T (any-filter good (weighs v) (range K))
      (good-some K L gl reach (reaches-is K gl) (inside-l v g i z ez) (in-K v g i z ez) z ez))
      u zero-le (subst (λ x. u < x) e h)
      (→and (weighs v u) (good u) (lt→ltb 0 (get_or v u 0) w) (→good u (→weight u k w) b))

  -- ---- the component's first state
  trans : (a b c : ℕ) → T (elem b L) → T (elem c L) → T (reach a b) → T (reach b c) → T (reach a c)
  trans a b c hb hc = reach-trans K gl reach (reaches-is K gl) (inside-l v g i z ez) a b c (lt b hb) (lt c hc)

  s-in : T (elem s L)
  s-in = (s-is v g i z ez).1

  -- what is reachable from s is as good as s
  as-good : (x : ℕ) → T (elem x L) → T (reach s x) → T (good x)
  as-good x ex a = all_of (returns reach x) L
      (each_map (λ t. T (elem t L)) (λ t. T (returns reach x t))
      (λ t et. →imp (reach x t) (reach t x) (λ b. go t et b)) L (each-elem L))
    where
      home : (t : ℕ) → T (elem t L) → T (reach s t) → T (reach t s)
      home t et u = imp→ (reach s t) (reach t s)
          (elem-each (λ t. T (returns reach s t)) t L et (all-each (returns reach s) L (s-is v g i z ez).0)) u

      go : (t : ℕ) → T (elem t L) → T (reach x t) → T (reach t x)
      go t et b = trans t s x s-in ex (home t et (trans s x t ex et a b)) a

  start_first : get_or (component_states v g) 0 0 ≡ first
      (returning (reachings (length v) (within (live v) g)) (live v)) 0 (live v)
  unfolding component_states
  start_first =
      first_head good (reach s) 0 L
      (elem-each (λ x. T (good x) → T (any good L)) s L s-in (each-any good L) (s-is v g i z ez).0)
      (each_map (λ x. T (elem x L)) (λ x. T (reach s x) → T (good x)) as-good L (each-elem L))
      ((reaches-is K gl).self s (lt s s-in))

  pub component-is : IsComponent v (within (live v) g) (get_or (component_states v g) 0 0) (component_states v g)
  unfolding component_states
  component-is =
      subst (λ s. IsComponent v gl s (component_states v g)) (sym start_first) (record {
        live = weight→ s (s-is v g i z ez).1;
        back = good→ s (s-is v g i z ez).1 (s-is v g i z ez).0;
        lowest = lowest;
        states = λ t. (
          (λ h. let (a, b) = elem-filter (reach s) t L h in reach→ s t (lt t b) a),
          (λ r. →elem-filter (reach s) t L (live-reach s t (s-is v g i z ez).1 r)
              (→reach s t (lt s (s-is v g i z ez).1) r)),
        );
      })
