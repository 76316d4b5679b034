-- Moving the edges of a state that the run does not keep.
-- In order: Resourced, sources as f says below i; with_source; resource-none, resource-put,
-- resource-keep; new_source, resource-end; contains_is, source-other, source-kept, source-moved, new-source; resource-next,
-- resource_stay.
-- Assumes nothing.
use Rattle.std.proofs.Common.{◌≡◌, ◌∷◌, ◌||◌, ◌&&◌, ◌+◌, ◌≤◌, ◌<◌, if◌then◌else◌}
use Rattle.std.specs.List.{list_any}
use Rattle.laws.proofs.All.{refl, sym, ap, ap₂, ◌∙◌, Bool, true, false, not, List, [], map, ℕ}
use Rattle.laws.proofs.All.{arith, below_more, ne_eqb, length, get_or, set, length-set, get_or-set_same}
use Rattle.laws.proofs.All.{get_or-set_other}
use Rattle.laws.proofs.All.{range, map-map, map-range-same, ℕ_discrete, elem, eqb, eq-eqb}
use Rattle.compile_graph.specs.declared.Graph.{Graph}
use Rattle.compile_graph.specs.Arcs.{Arc, arc, leaves}
use Rattle.compile_graph.specs.Splitting.{among, moved}
use Rattle.compile_graph.specs.Value.{arc_at, Fits}
use Rattle.compile_order.specs.EdgeKeys.{key_of, arc_of}
use Rattle.compile_order.proofs.KeptKeys.{among-kept}
use Rattle.compile_parts.specs.Parts.{source_after, Moved}

-- ---- moving
-- h is g, but its sources below i are as f says
pub record Resourced (g : Graph) (f : ℕ → ℕ) (i : ℕ) (h : Graph) : Type 0 where
  pub states : h.states ≡ g.states
  pub edges : h.edges ≡ g.edges
  pub weight : h.weight ≡ g.weight
  pub word : h.word ≡ g.word
  pub target : h.target ≡ g.target
  pub long : length h.source ≡ 2048
  pub done : (k : ℕ) → k < i → get_or h.source k 0 ≡ f k
  pub left : (k : ℕ) → i ≤ k → get_or h.source k 0 ≡ get_or g.source k 0

-- h with x as the source of edge i
abbrev pub with_source : Graph → ℕ → ℕ → Graph
with_source h i x = record {
  states = h.states;
  edges = h.edges;
  weight = h.weight;
  source = set h.source i x;
  word = h.word;
  target = h.target;
}

pub resource-none : (g : Graph) (f : ℕ → ℕ) → length g.source ≡ 2048 → Resourced g f 0 g
resource-none g f l = record {
  states = refl;
  edges = refl;
  weight = refl;
  word = refl;
  target = refl;
  long = l;
  done = λ k h. absurd (omega arith);
  left = λ k h. refl;
}

module _ (g : Graph) (f : ℕ → ℕ) (i : ℕ) (h : Graph) (c : Resourced g f i h) where
  pub resource-put : (x : ℕ) → i < 2048 → x ≡ f i → Resourced g f (i + 1) (with_source h i x)
  resource-put x l e = record {
    states = c.states;
    edges = c.edges;
    weight = c.weight;
    word = c.word;
    target = c.target;
    long = length-set h.source i x ∙ c.long;
    done = below_more (λ k. get_or (set h.source i x) k 0 ≡ f k) i
        (λ k b. get_or-set_other h.source i k x 0 (λ q. omega arith) ∙ c.done k b)
        (get_or-set_same h.source i x 0 (let n = c.long in omega arith) ∙ e);
    left = λ k b. get_or-set_other h.source i k x 0 (λ q. omega arith) ∙ c.left k (omega arith);
  }

  -- an edge that keeps its source
  pub resource-keep : get_or g.source i 0 ≡ f i → Resourced g f (i + 1) h
  resource-keep e = record {
    states = c.states;
    edges = c.edges;
    weight = c.weight;
    word = c.word;
    target = c.target;
    long = c.long;
    done = below_more (λ k. get_or h.source k 0 ≡ f k) i c.done (c.left i (omega arith) ∙ e);
    left = λ k b. c.left k (omega arith);
  }

module _ (g : Graph) (s : ℕ) (keep : List Arc) where
  -- the source of edge k after the move
  abbrev pub new_source : ℕ → ℕ
  new_source k = (moved s g.states keep (arc_at g k)).source

  pub resource-end : (h : Graph) → Resourced g new_source g.edges h → Moved g s keep h
  resource-end h c = record {
    arcs =
        ap (λ m. map (arc_at h) (range m)) c.edges
        ∙ map-range-same (arc_at h) (λ k. moved s g.states keep (arc_at g k)) g.edges
        (λ k l. ap₂ (λ w t. arc (get_or h.source k 0) (get_or w k 0) (get_or t k 0)) c.word c.target
        ∙ ap (λ x. arc x (get_or g.word k 0) (get_or g.target k 0)) (c.done k l)
        ∙ same k (leaves s (arc_at g k) && not (among keep (arc_at g k))))
        ∙ sym (map-map (moved s g.states keep) (arc_at g) (range g.edges));
    edges = c.edges;
    states = c.states;
    weight = c.weight;
  }
    where
      same : (k : ℕ) (b : Bool)
          → arc (if b then arc g.states (arc_at g k).word (arc_at g k).target else arc_at g k).source
          (arc_at g k).word
          (arc_at g k).target
          ≡ (if b then arc g.states (arc_at g k).word (arc_at g k).target else arc_at g k)
      same k true = refl
      same k false = refl

-- the test of a slice is that of the definition
pub contains_is : (k : ℕ) (K : List ℕ) → list_any (λ y. eqb y k) K ≡ elem k K
contains_is k [] = refl
contains_is k (x ∷ K) = ap₂ (λ a b. a || b) (turned (ℕ_discrete x k)) (contains_is k K)
  where
    turned : Dec (x ≡ k) → eqb x k ≡ eqb k x
    turned (yes e) = eq-eqb x k e ∙ sym (eq-eqb k x (sym e))
    turned (no n) = ne_eqb x k n ∙ sym (ne_eqb k x (λ q. n (sym q)))

-- the answers of the code's tests
module _ (s new : ℕ) (K : List ℕ) (x k : ℕ) where
  pub source-other : (x ≡ s → ⊥) → x ≡ source_after s new K x k
  source-other q = sym (ap (λ b. if b && not (elem k K) then new else x) (ne_eqb x s q))

  pub source-kept : x ≡ s → elem k K ≡ true → x ≡ source_after s new K x k
  source-kept q e = sym (ap₂ (λ a b. if a && not b then new else x) (eq-eqb x s q) e)

  pub source-moved : x ≡ s → elem k K ≡ false → new ≡ source_after s new K x k
  source-moved q e = sym (ap₂ (λ a b. if a && not b then new else x) (eq-eqb x s q) e)

-- the source as the code finds it, by keys
pub new-source : (g : Graph) (s : ℕ) (K : List ℕ) (k : ℕ) → Fits g → k < g.edges
    → source_after s g.states K (get_or g.source k 0) (key_of (arc_at g k)) ≡ new_source g s (map (arc_of s) K) k
new-source g s K k f h = go (ℕ_discrete (get_or g.source k 0) s)
  where
    x : ℕ
    x = get_or g.source k 0

    pick : (b : Bool) → (if b then g.states else x)
        ≡ (if b then arc g.states (arc_at g k).word (arc_at g k).target else arc_at g k).source
    pick true = refl
    pick false = refl

    go : Dec (x ≡ s) → source_after s g.states K x (key_of (arc_at g k)) ≡ new_source g s (map (arc_of s) K) k
    go (yes q) =
        ap (λ b. if eqb x s && not b then g.states else x) (among-kept g s k K f h q)
        ∙ pick (eqb x s && not (among (map (arc_of s) K) (arc_at g k)))
    go (no q) =
        ap (λ b. if b && not (elem (key_of (arc_at g k)) K) then g.states else x) (ne_eqb x s q)
        ∙ sym (sym (pick (eqb x s && not (among (map (arc_of s) K) (arc_at g k))))
        ∙ ap (λ b. if b && not (among (map (arc_of s) K) (arc_at g k)) then g.states else x) (ne_eqb x s q))

-- one turn of the loop
pub resource-next : (g : Graph) (s : ℕ) (K : List ℕ) (i : ℕ) (h : Graph) → Fits g → i < g.edges
    → Resourced g (new_source g s (map (arc_of s) K)) i h → (x : ℕ)
    → x ≡ source_after s g.states K (get_or g.source i 0) (key_of (arc_at g i))
    → Resourced g (new_source g s (map (arc_of s) K)) (i + 1) (with_source h i x)
resource-next g s K i h f l c x e =
    resource-put g (new_source g s (map (arc_of s) K)) i h c x (omega (arith, f.room)) (e ∙ new-source g s K i f l)

pub resource_stay : (g : Graph) (s : ℕ) (K : List ℕ) (i : ℕ) (h : Graph) → Fits g → i < g.edges
    → Resourced g (new_source g s (map (arc_of s) K)) i h
    → get_or g.source i 0 ≡ source_after s g.states K (get_or g.source i 0) (key_of (arc_at g i))
    → Resourced g (new_source g s (map (arc_of s) K)) (i + 1) h
resource_stay g s K i h f l c e =
    resource-keep g (new_source g s (map (arc_of s) K)) i h c (e ∙ new-source g s K i f l)
