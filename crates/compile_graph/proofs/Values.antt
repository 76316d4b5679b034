-- A graph by value: that it fits its arrays, by its lists; more edges.
-- In order: Bounded, Low, fits-from, fits-arcs, fits-weights; with_arc; Appended, appended-none, arcs-count,
-- appended-count, appended-more; climbs.
-- Assumes nothing.
use Rattle.std.proofs.Common.{◌≡◌, ◌∷◌, ◌++◌, ◌+◌, ◌-◌, ◌≤◌, ◌<◌}
use Rattle.laws.proofs.All.{refl, sym, ap, ap₂, subst, ◌∙◌, List, [], map, append_assoc, append-nil}
use Rattle.laws.proofs.All.{ℕ, zero, suc, add-zero, arith, length, set, length-set}
use Rattle.laws.proofs.All.{length-append, range, Each, each_map, each-image, each_at, map-range-at, each-range}
use Rattle.laws.proofs.All.{length-map-range, map-range-more, map-range-same, get_or-set_same, get_or-set_other}
use Rattle.compile_graph.specs.declared.Graph.{Graph}
use Rattle.compile_graph.specs.Arcs.{Arc, arc}
use Rattle.compile_graph.specs.Value.{arc_at, arcs_in, weight_at, weights_in, Fits}

-- ---- a graph that fits, by its lists
abbrev pub Bounded : ℕ → Arc → Type 0
Bounded K e = (e.source < K) × (e.target < K) × (e.word < 256)

abbrev pub Low : ℕ → Type 0
Low w = w ≤ 128

pub fits-from : (g : Graph) → g.states ≤ 128 → g.edges ≤ 2048 → Each Low (weights_in g)
    → Each (Bounded g.states) (arcs_in g) → Fits g
fits-from g a b w e = record {
  few = a;
  room = b;
  light = λ s h. subst (λ x. x ≤ 128) (map-range-at (weight_at g) g.states s 0 h)
      (each_at Low 0 (weights_in g) w s (rw (length-map-range (weight_at g) g.states) h));
  word = λ i h. (at i h).2;
  source = λ i h. (at i h).0;
  target = λ i h. (at i h).1;
}
  where
    at : (i : ℕ) → i < g.edges → Bounded g.states (arc_at g i)
    at i h = subst (Bounded g.states) (map-range-at (arc_at g) g.edges i (arc 0 0 0) h)
        (each_at (Bounded g.states) (arc 0 0 0) (arcs_in g) e i (rw (length-map-range (arc_at g) g.edges) h))

pub fits-arcs : (g : Graph) → Fits g → Each (Bounded g.states) (arcs_in g)
fits-arcs g f =
    each-image (Bounded g.states) (arc_at g) (range g.edges)
    (each_map (λ i. i < g.edges) _ (λ i h. (f.source i h, f.target i h, f.word i h)) (range g.edges)
    (each-range g.edges))

pub fits-weights : (g : Graph) → Fits g → Each Low (weights_in g)
fits-weights g f =
    each-image Low (weight_at g) (range g.states)
    (each_map (λ i. i < g.states) _ (λ i h. f.light i h) (range g.states) (each-range g.states))

-- ---- one more edge
-- h with one more edge at place m
abbrev pub with_arc : Graph → ℕ → ℕ → ℕ → ℕ → Graph
with_arc h m s w t = record {
  states = h.states;
  edges = h.edges;
  weight = h.weight;
  source = set h.source m s;
  word = set h.word m w;
  target = set h.target m t;
}

-- the first m + 1 edges of a graph with one more at place m
one_more : (h : Graph) (m s w t : ℕ) → m < length h.source → m < length h.word → m < length h.target
    → map (arc_at (with_arc h m s w t)) (range (m + 1)) ≡ map (arc_at h) (range m) ++ (arc s w t ∷ [])
one_more h m s w t ls lw lt =
    let r : Graph = with_arc h m s w t in
    map-range-more (arc_at r) m
    ∙ ap₂ (λ x y. x ++ (y ∷ []))
    (map-range-same (arc_at r) (arc_at h) m (λ k l. cc (
      get_or-set_other h.source m k s 0 (λ q. omega arith),
      get_or-set_other h.word m k w 0 (λ q. omega arith),
      get_or-set_other h.target m k t 0 (λ q. omega arith),
    )))
    (cc (get_or-set_same h.source m s 0 ls, get_or-set_same h.word m w 0 lw, get_or-set_same h.target m t 0 lt))

-- ---- edges appended one after the other
-- the first m edges of h are those of g and after them L
pub record Appended (g h : Graph) (m : ℕ) (L : List Arc) : Type 0 where
  pub arcs : map (arc_at h) (range m) ≡ arcs_in g ++ L
  pub source : length h.source ≡ 2048
  pub word : length h.word ≡ 2048
  pub target : length h.target ≡ 2048
  pub states : h.states ≡ g.states
  pub weight : h.weight ≡ g.weight

pub appended-none : (g : Graph) → length g.source ≡ 2048 → length g.word ≡ 2048 → length g.target ≡ 2048
    → Appended g g g.edges []
appended-none g a b d = record {
  arcs = sym (append-nil (arcs_in g));
  source = a;
  word = b;
  target = d;
  states = refl;
  weight = refl;
}

pub arcs-count : (g h : Graph) (m : ℕ) (L : List Arc) → map (arc_at h) (range m) ≡ arcs_in g ++ L
    → m ≡ g.edges + length L
arcs-count g h m L e = cc (
  length-map-range (arc_at h) m,
  length-append (arcs_in g) L,
  length-map-range (arc_at g) g.edges,
)

module _ (g h : Graph) (m : ℕ) (L : List Arc) (c : Appended g h m L) where
  pub appended-count : m ≡ g.edges + length L
  appended-count = arcs-count g h m L c.arcs

  pub appended-more : m < 2048 → (s w t : ℕ) → Appended g (with_arc h m s w t) (m + 1) (L ++ (arc s w t ∷ []))
  appended-more l s w t = record {
    arcs =
        one_more h m s w t (let a = c.source in omega arith) (let a = c.word in omega arith)
        (let a = c.target in omega arith)
        ∙ ap (λ x. x ++ (arc s w t ∷ [])) c.arcs ∙ append_assoc (arcs_in g) L (arc s w t ∷ []);
    source = length-set h.source m s ∙ c.source;
    word = length-set h.word m w ∙ c.word;
    target = length-set h.target m t ∙ c.target;
    states = c.states;
    weight = c.weight;
  }

-- what never falls from one number to the next never falls
climbs-by : (f : ℕ → ℕ) → ((i : ℕ) → f i ≤ f (i + 1)) → (i d : ℕ) → f i ≤ f (i + d)
climbs-by f h i zero = rw (add-zero i) (omega arith)
climbs-by f h i (suc d) =
    let e : i + suc d ≡ i + d + 1 = omega arith in
    rw e (omega (arith, climbs-by f h i d, h (i + d)))

pub climbs : (f : ℕ → ℕ) → ((i : ℕ) → f i ≤ f (i + 1)) → (i n : ℕ) → i ≤ n → f i ≤ f n
climbs f h i n l = let e : i + (n - i) ≡ n = omega arith in subst (λ k. f i ≤ f k) e (climbs-by f h i (n - i))
