-- One split of the graph in work: the state that the rule names, and the count of edges before anything is written.
-- In order: split-count, count_at, how many edges a split makes; crowded-into, too many; parted-into, the split;
-- chosen-passes, chosen-heavy, chosen-light, the state that is chosen.
-- Assumes nothing.
use Rattle.std.proofs.Common.{Some, None, ◌≡◌, ◌+◌, ◌/◌, ◌≤◌, ◌<◌}
use Rattle.laws.proofs.All.{sym, ap, subst, ◌∙◌, List, ℕ, lt-ltb}
use Rattle.laws.proofs.All.{le-ltb, T, eqb, eqb→eq, length, get_or, range, any, and→, first_passes, each-range}
use Rattle.laws.proofs.All.{length-map-range}
use Rattle.compile_graph.specs.declared.Graph.{Graph}
use Rattle.compile_graph.specs.Arcs.{out}
use Rattle.compile_graph.specs.Weights.{total}
use Rattle.compile_graph.specs.Splitting.{greatest, lighter, splittable, chosen, kept, parted, split}
use Rattle.compile_graph.specs.Value.{arc_at, arcs_in, weights_in, work_in}
use Rattle.compile_parts.specs.Parts.{entering}
use Rattle.compile_split.specs.SplitParts.{PartedInto, SplitInto}
use Rattle.compile_graph.proofs.PartedBack.{parted-count}

module _ (n : ℕ) (g : Graph) where
  abbrev v : List ℕ
  v = weights_in g

  pub split-count : length (split n (work_in g)).arcs ≡ g.edges + entering (arcs_in g) (chosen v (arcs_in g))
  unfolding split
  split-count =
      let s = chosen v (arcs_in g) in
      parted-count s (length v) (kept n v (arcs_in g) s) (arcs_in g)
      ∙ ap (λ k. k + entering (arcs_in g) s) (length-map-range (arc_at g) g.edges)

  module _ (s : ℕ) (is : s ≡ chosen v (arcs_in g)) where
    count_at : length (split n (work_in g)).arcs ≡ g.edges + entering (arcs_in g) s
    count_at = split-count ∙ ap (λ k. g.edges + entering (arcs_in g) k) (sym is)

    -- too many edges: said before anything is written
    pub crowded-into : 2048 < g.edges + entering (arcs_in g) s → SplitInto n g None
    crowded-into l = lt-ltb 2048 (length (split n (work_in g)).arcs) (rw count_at l)

    pub parted-into : (h : Graph) → g.edges + entering (arcs_in g) s ≤ 2048 → PartedInto n g s h
        → SplitInto n g (Some h)
    unfolding split
    parted-into h l p = record {
      room = le-ltb 2048 (length (split n (work_in g)).arcs) (rw count_at l);
      work = p.work
          ∙ ap (λ k. parted k (kept n v (arcs_in g) k) (total v (kept n v (arcs_in g) k) / n) (work_in g)) is;
      fits = p.fits;
    }

    module _ (t : T (any (splittable v (arcs_in g)) (range (length v)))) where
      chosen-passes : T (splittable v (arcs_in g) s)
      chosen-passes =
          subst (λ k. T (splittable v (arcs_in g) k)) (sym is)
          (first_passes (splittable v (arcs_in g)) 0 (λ k. k < length v) (range (length v)) t (each-range (length v))).0

      pub chosen-heavy : (M : ℕ) → M ≡ greatest v → M ≡ get_or v s 0
      chosen-heavy M e =
          let (a, b) = and→ (eqb (get_or v s 0) (greatest v))
          (any (lighter v (greatest v)) (out (arcs_in g) s)) chosen-passes in
          e ∙ sym (eqb→eq (get_or v s 0) (greatest v) a)

      pub chosen-light : (M : ℕ) → M ≡ greatest v → T (any (lighter v M) (out (arcs_in g) s))
      chosen-light M e =
          let (a, b) = and→ (eqb (get_or v s 0) (greatest v))
          (any (lighter v (greatest v)) (out (arcs_in g) s)) chosen-passes in
          subst (λ m. T (any (lighter v m) (out (arcs_in g) s))) (sym e) b
