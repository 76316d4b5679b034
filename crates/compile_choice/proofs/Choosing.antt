-- The greatest weight and the state to split, each by one loop.
-- In order: max_is, greatest-more; Lowest, the lowest source of an edge that passes; lowest-none, lowest_hit, lowest_miss;
-- lower_is, some_below, the lowest as an option; choose-is.
-- Assumes nothing.
use Rattle.std.proofs.Common.{◌≡◌, ◌⊎◌, ◌&&◌, ◌∷◌, ◌++◌, ◌+◌, ◌≤◌, ◌<◌, Option, Some, None, rules}
use Rattle.std.specs.Option.{unwrap_or, IsSome}
use Rattle.std.specs.Ordering.{ord_max, nat_cmp}
use Rattle.std.proofs.lemmas.Grind.{common_steps}
use Rattle.laws.proofs.All.{refl, sym, ap, subst, ◌∙◌, inl, inr, Bool, true, false, List, []}
use Rattle.laws.proofs.All.{map, ℕ, max, min, arith, ℕ_discrete, T, ltb, eqb, eqb→eq, eqb_refl}
use Rattle.laws.proofs.All.{length, get_or, range, any, and→, →and, any→, →any, any-below→, T→true}
use Rattle.laws.proofs.All.{bool_eq, map-range-at, any-filter, length-map-range, map-range-more, first-least}
use Rattle.compile_graph.specs.declared.Graph.{Graph}
use Rattle.compile_graph.specs.Arcs.{arc, leaves, out}
use Rattle.compile_graph.specs.Splitting.{greatest, lighter, splittable, chosen}
use Rattle.compile_graph.specs.Value.{arc_at, arcs_in, weight_at, weights_in, Fits}

-- the greater of two numbers, as `max` has it
pub max_is : (a b : ℕ) → ord_max nat_cmp a b ≡ max a b
max_is a b = grind (arith, common_steps)

greatest-snoc : (l : List ℕ) (x : ℕ) → greatest (l ++ (x ∷ [])) ≡ max (greatest l) x
greatest-snoc [] x = omega arith
greatest-snoc (y ∷ l) x = let e = greatest-snoc l x in omega arith

pub greatest-more : (f : ℕ → ℕ) (i : ℕ) → greatest (map f (range (i + 1))) ≡ max (greatest (map f (range i))) (f i)
greatest-more f i = ap greatest (map-range-more f i) ∙ greatest-snoc (map f (range i)) (f i)

-- `best` is the lowest source of an edge below i that passes, or 128 if none does
pub record Lowest (hit : ℕ → Bool) (source : ℕ → ℕ) (i best : ℕ) : Type 0 where
  pub low : (k : ℕ) → k < i → T (hit k) → best ≤ source k
  pub found : (best ≡ 128) ⊎ ((k : ℕ) × (k < i) × T (hit k) × (source k ≡ best))

pub lowest-none : (hit : ℕ → Bool) (source : ℕ → ℕ) → Lowest hit source 0 128
lowest-none hit source = record { low = λ k h t. absurd (omega arith); found = inl refl }

module _ (hit : ℕ → Bool) (source : ℕ → ℕ) (i best : ℕ) (w : Lowest hit source i best) where
  keep : (best ≡ 128) ⊎ ((k : ℕ) × (k < i) × T (hit k) × (source k ≡ best))
      → (best ≡ 128) ⊎ ((k : ℕ) × (k < i + 1) × T (hit k) × (source k ≡ best))
  keep (inl e) = inl e
  keep (inr (k, h, t, e)) = inr (k, omega arith, t, e)

  low-more : (b : ℕ) → b ≤ best → (T (hit i) → b ≤ source i) → (k : ℕ) → k < i + 1 → T (hit k) → b ≤ source k
  low-more b l f k h t = elim (ℕ_discrete k i) [
    | yes e ↦ rw e (f (rw e at t))
    | no e ↦ omega (arith, w.low k (omega arith) t)
  ]

  pub lowest_hit : (b : ℕ) → hit i ≡ true → b ≡ min best (source i) → Lowest hit source (i + 1) b
  lowest_hit b q e = record {
    low = low-more b (omega arith) (λ t. omega arith);
    found = pick (native.Mathlib.Decide.dec_lt (source i) best);
  }
    where
      pick : Dec (source i < best) → (b ≡ 128) ⊎ ((k : ℕ) × (k < i + 1) × T (hit k) × (source k ≡ b))
      pick (yes l) = inr (i, omega arith, rw q tt, omega arith)
      pick (no l) = let u : best ≡ b = omega arith in
          subst (λ x. (x ≡ 128) ⊎ ((k : ℕ) × (k < i + 1) × T (hit k) × (source k ≡ x))) u (keep w.found)

  pub lowest_miss : hit i ≡ false → Lowest hit source (i + 1) best
  lowest_miss q = record { low = low-more best (omega arith) (λ t. absurd (subst T q t)); found = keep w.found }

-- the lower of a state and of the lowest before, if there is one
pub lower_is : (o : Option ℕ) (s : ℕ) → s < 128 → min (unwrap_or o s) s ≡ min (unwrap_or o 128) s
lower_is None s h = omega arith
lower_is (Some x) s h = refl

pub some_below : (o : Option ℕ) → unwrap_or o 128 < 128 → IsSome o
some_below None h = absurd (omega arith)
some_below (Some x) h = search rules

-- ---- edges that make their source splittable
module _ (g : Graph) (M : ℕ) where
  -- edge k leads from a state of weight M to a lighter one
  abbrev pub lightens : ℕ → Bool
  lightens k = eqb (weight_at g (get_or g.source k 0)) M && ltb (weight_at g (get_or g.target k 0)) M

  abbrev pub source_at : ℕ → ℕ
  source_at k = get_or g.source k 0

  module _ (f : Fits g) (e : M ≡ greatest (weights_in g)) where
    abbrev v : List ℕ
    v = weights_in g

    weigh : (s : ℕ) → s < g.states → get_or v s 0 ≡ weight_at g s
    weigh s h = map-range-at (weight_at g) g.states s 0 h

    -- an edge that passes makes its source splittable
    →splits : (k : ℕ) → k < g.edges → T (lightens k) → T (splittable v (arcs_in g) (source_at k))
    →splits k h t =
        let (a, b) = and→ (eqb (weight_at g (source_at k)) M) (ltb (weight_at g (get_or g.target k 0)) M) t in
        let at : get_or (arcs_in g) k (arc 0 0 0) ≡ arc_at g k = map-range-at (arc_at g) g.edges k (arc 0 0 0) h in
        let light : T (lighter v (greatest v) (arc_at g k)) =
        rw (weigh (get_or g.target k 0) (f.target k h), ← e) b in
        →and (eqb (get_or v (source_at k) 0) (greatest v))
        (any (lighter v (greatest v)) (out (arcs_in g) (source_at k)))
        (rw (weigh (source_at k) (f.source k h), ← e) a)
        (rw (any-filter (lighter v (greatest v)) (leaves (source_at k)) (arcs_in g))
        (→any (λ x. leaves (source_at k) x && lighter v (greatest v) x) (arc 0 0 0) (arcs_in g) k
        (rw (length-map-range (arc_at g) g.edges) h)
        (subst (λ x. T (leaves (source_at k) x && lighter v (greatest v) x)) (sym at)
        (→and (eqb (source_at k) (source_at k)) (lighter v (greatest v) (arc_at g k)) (eqb_refl (source_at k)) light))))

    -- a splittable state has such an edge
    splits→ : (s : ℕ) → s < g.states → T (splittable v (arcs_in g) s)
        → (k : ℕ) × (k < g.edges) × T (lightens k) × (source_at k ≡ s)
    splits→ s h t =
        let (a, b) = and→ (eqb (get_or v s 0) (greatest v)) (any (lighter v (greatest v)) (out (arcs_in g) s)) t in
        let u : T (any (λ x. leaves s x && lighter v (greatest v) x) (arcs_in g)) =
        rw (← any-filter (lighter v (greatest v)) (leaves s) (arcs_in g)) b in
        let (k, l, w) = any→ (λ x. leaves s x && lighter v (greatest v) x) (arc 0 0 0) (arcs_in g) u in
        let hk : k < g.edges = rw (length-map-range (arc_at g) g.edges) at l in
        let at : get_or (arcs_in g) k (arc 0 0 0) ≡ arc_at g k = map-range-at (arc_at g) g.edges k (arc 0 0 0) hk in
        let (c, d) = and→ (leaves s (arc_at g k)) (lighter v (greatest v) (arc_at g k))
        (subst (λ x. T (leaves s x && lighter v (greatest v) x)) at w) in
        let q : source_at k ≡ s = eqb→eq (source_at k) s c in (
          k,
          hk,
          →and (eqb (weight_at g (source_at k)) M) (ltb (weight_at g (get_or g.target k 0)) M)
              (rw (q, ← weigh s h, e) a) (rw (← weigh (get_or g.target k 0) (f.target k hk), e) d),
          q,
        )

    pub choose-is : T (any (splittable v (arcs_in g)) (range (length v))) → (best : ℕ)
        → Lowest lightens source_at g.edges best → (best ≡ chosen v (arcs_in g)) × (best < g.states)
    choose-is t best w =
        go (any-below→ (splittable v (arcs_in g)) (length v) t) w.found
      where
        K : length v ≡ g.states
        K = length-map-range (weight_at g) g.states

        none : (s : ℕ) → s < best → best < g.states → splittable v (arcs_in g) s ≡ false
        none s h l = bool_eq (splittable v (arcs_in g) s) false
            (λ t. let (k, hk, u, r) = splits→ s (omega arith) t in omega (arith, w.low k hk u)) (λ e. absurd e)

        go : (i : ℕ) × (i < length v) × T (splittable v (arcs_in g) i)
            → (best ≡ 128) ⊎ ((k : ℕ) × (k < g.edges) × T (lightens k) × (source_at k ≡ best))
            → (best ≡ chosen v (arcs_in g)) × (best < g.states)
        go (i, h, u) (inl q) =
            let (k, hk, u, r) = splits→ i (rw K at h) u in
            absurd (omega (arith, w.low k hk u, f.few, f.source k hk))
        go (i, h, u) (inr (k, hk, y, q)) =
            let l : best < g.states = rw q at (f.source k hk) in
            let z : T (splittable v (arcs_in g) best) = rw q at (→splits k hk y) in (
              sym (first-least (splittable v (arcs_in g)) 0 (length v) best
                  (λ s b. none s b l) (rw K l) (T→true (splittable v (arcs_in g) best) z)),
              l,
            )
