-- The new weights of a split.
-- In order: with_weights, weigh-is.
-- Assumes nothing.
use Rattle.std.proofs.Common.{◌≡◌, ◌∷◌, ◌++◌, ◌+◌, ◌-◌, ◌<◌}
use Rattle.laws.proofs.All.{refl, sym, ap, ap₂, ◌∙◌, [], map, ℕ, arith, ℕ_discrete}
use Rattle.laws.proofs.All.{length, get_or, set, length-set, get_or-set_same, get_or-set_other, ext_get_or, range}
use Rattle.laws.proofs.All.{map-range-at, map-range-more, length-map-range}
use Rattle.compile_graph.specs.declared.Graph.{Graph}
use Rattle.compile_graph.specs.Value.{weight_at, weights_in}
use Rattle.compile_split.specs.SplitParts.{Weighed}

-- g with weight w at s, x at a new last state
abbrev pub with_weights : Graph → ℕ → ℕ → ℕ → Graph
with_weights g s w x = record {
  states = g.states + 1;
  edges = g.edges;
  weight = set (set g.weight s w) g.states x;
  source = g.source;
  word = g.word;
  target = g.target;
}

pub weigh-is : (g : Graph) (s w : ℕ) → length g.weight ≡ 128 → s < g.states → g.states < 128
    → Weighed g s w (with_weights g s w (get_or g.weight s 0 - w))
weigh-is g s w l h b = record {
  weights =
      map-range-more (weight_at r) g.states
      ∙ ap₂ (λ a x. a ++ (x ∷ []))
      (ext_get_or 0 (map (weight_at r) (range g.states)) (set (weights_in g) s w)
      (length-map-range (weight_at r) g.states ∙ sym (length-set (weights_in g) s w ∙ K))
      (λ i k. let m : i < g.states = rw (length-map-range (weight_at r) g.states) at k in
      map-range-at (weight_at r) g.states i 0 m
      ∙ get_or-set_other (set g.weight s w) g.states i x 0 (λ q. omega arith) ∙ at i m (ℕ_discrete i s)))
      (get_or-set_same (set g.weight s w) g.states x 0 (rw (length-set g.weight s w) (omega arith))
      ∙ ap (λ y. y - w) (sym (map-range-at (weight_at g) g.states s 0 h)));
  arcs = refl;
  edges = refl;
  states = refl;
}
  where
    x : ℕ
    x = get_or g.weight s 0 - w

    r : Graph
    r = with_weights g s w x

    K : length (weights_in g) ≡ g.states
    K = length-map-range (weight_at g) g.states

    at : (i : ℕ) → i < g.states → Dec (i ≡ s) → get_or (set g.weight s w) i 0 ≡ get_or (set (weights_in g) s w) i 0
    at i m (yes q) =
        rw q (get_or-set_same g.weight s w 0 (omega arith) ∙ sym (get_or-set_same (weights_in g) s w 0 (rw K h)))
    at i m (no q) =
        get_or-set_other g.weight s i w 0 q
        ∙ sym (get_or-set_other (weights_in g) s i w 0 q ∙ map-range-at (weight_at g) g.states i 0 m)
