-- Splitting leaves every state its n edges.
-- In order: split-finished.
-- Assumes nothing.
use Rattle.std.proofs.Common.{◌≡◌, ◌∷◌, ◌≤◌, ◌<◌}
use Rattle.laws.proofs.All.{sym, ap, subst, ◌∙◌, List, [], ℕ, arith, length, sum}
use Rattle.laws.proofs.All.{length-map-range}
use Rattle.compile_graph.specs.declared.Graph.{Graph}
use Rattle.compile_graph.specs.Arcs.{Work, out}
use Rattle.compile_graph.specs.Splitting.{split_all}
use Rattle.compile_graph.specs.Invariant.{Inv}
use Rattle.compile_graph.specs.Value.{arc_at, weight_at, work_in, Fits}
use Rattle.compile_graph.proofs.Loop.{splitted-end, splitted-full}
use Rattle.compile_table.specs.Finishing.{Finished}

positive : (v : List ℕ) → 0 < sum v → 0 < length v
positive [] h = absurd (omega arith)
positive (x ∷ v) h = omega arith

module _ (n S : ℕ) (x : Work) (some : 0 < n) (few : n ≤ 16) (inv : Inv n S x) (weighs : 0 < S) (g : Graph)
    (fits : Fits g) (w : work_in g ≡ split_all n x) where
  states : length (split_all n x).weights ≡ g.states
  states = ap (λ y. length y.weights) (sym w) ∙ length-map-range (weight_at g) g.states

  edges : length (split_all n x).arcs ≡ g.edges
  edges = ap (λ y. length y.arcs) (sym w) ∙ length-map-range (arc_at g) g.edges

  -- THEOREM: the graph that all splits of x end with is finished
  pub split-finished : Finished n g
  split-finished =
      let p = positive (split_all n x).weights (omega (arith, (splitted-end n S some x inv).0.whole)) in
      record {
        fits = fits;
        some = omega (arith, states);
        few = few;
        full = λ t h.
            subst (λ y. n ≤ length (out y.arcs t)) (sym w)
            (splitted-full n S some x inv (omega (arith, edges, fits.room)) t (omega (arith, states)));
      }
