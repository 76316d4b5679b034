-- The steps of a job from its weights on.
-- In order: stages-none, stages-heavy, stages-crowded, stages-all.
-- Assumes nothing.
use Rattle.std.proofs.Common.{Some, None, is_none, ◌≡◌, ◌||◌, ◌++◌, ◌≤◌, ◌<◌}
use Rattle.laws.proofs.All.{refl, sym, ap, ap₂, subst, ◌∙◌, true, false, List, append_assoc}
use Rattle.laws.proofs.All.{append-nil, ℕ, eq-eqb, ne_eqb, lt-ltb, le-ltb, ltb, eqb, take, sum}
use Rattle.compile_graph.specs.declared.Graph.{Graph}
use Rattle.compile_graph.specs.Component.{component_states}
use Rattle.compile_graph.specs.Splitting.{crowded}
use Rattle.compile_graph.specs.Value.{work_in}
use Rattle.compile_job.specs.Jobs.{Job}
use Rattle.compile.specs.Compile.{ways, graph_of, weights_of, component_of}
use Rattle.trace_splits.specs.SplitText.{split_text}
use Rattle.text.specs.Texts.{Added}
use Rattle.text.proofs.Adding.{added-same, ◌then◌}
use Rattle.trace.specs.declared.beginnings.Beginning.{Beginning}
use Rattle.trace.specs.Beginnings.{FoundOf}
use Rattle.trace_stages.specs.StageText.{weights_line, component_line}
use Rattle.trace.specs.Traced.{stages}

-- ---- the text at each return
module _ {j : Job} {k : ℕ} {b : Beginning} (i : FoundOf j k b) {at m : ℕ} {B C : List ℕ}
    (weighed : Added (weights_line (take k b.weight)) at B C m) where
  is : b.found.total ≡ sum (component_of j).weights
  is = i.found.total

  first : Added (weights_line (weights_of j)) at B C m
  first = added-same (ap weights_line i.weights) weighed

  pub stages-none : b.found.total ≡ 0 → Added (stages j) at B C m
  unfolding stages
  stages-none z = added-same (rw (eq-eqb (sum (component_of j).weights) 0 (sym is ∙ z)) (sym (append-nil _))) first

  module _ (h : b.found.total ≡ 0 → ⊥) {r : ℕ} {D : List ℕ}
      (component : Added (component_line (take b.count b.states) b.found.total) m C D r) where
    front : Added (weights_line (weights_of j) ++ component_line (component_states (weights_of j) (graph_of j))
        (sum (component_of j).weights)) at B D r
    front = first then added-same (ap₂ component_line i.states is) component

    some : eqb (sum (component_of j).weights) 0 ≡ false
    some = ne_eqb (sum (component_of j).weights) 0 (λ z. h (is ∙ z))

    -- it weighs too much, or has too many edges
    stages-stop : (ltb 128 (sum (component_of j).weights) || crowded (component_of j)) ≡ true → Added (stages j) at B D
        r
    unfolding stages
    stages-stop z =
        added-same (rw (some, z) (ap (λ l. weights_line (weights_of j) ++ l) (sym (append-nil _)))) front

    pub stages-heavy : 128 < b.found.total → Added (stages j) at B D r
    stages-heavy l =
        stages-stop (ap (λ b. b || crowded (component_of j)) (lt-ltb 128 (sum (component_of j).weights)
        (subst (λ k. 128 < k) is l)))

    module _ (l : b.found.total ≤ 128) where
      light : ltb 128 (sum (component_of j).weights) ≡ false
      light = le-ltb 128 (sum (component_of j).weights) (subst (λ k. k ≤ 128) is l)

      pub stages-crowded : b.found.graph ≡ None → Added (stages j) at B D r
      stages-crowded z = stages-stop (ap₂ ◌||◌ light (sym i.found.crowds ∙ ap is_none z))

      -- THEOREM: all steps
      pub stages-all : {n : ℕ} → n ≡ ways j → {g : Graph} → b.found.graph ≡ Some g → {e : ℕ} {E : List ℕ}
          → Added (split_text j.q n (work_in g)) r D E e → Added (stages j) at B E e
      unfolding stages
      stages-all e {g} z s =
          let p : work_in g ≡ component_of j = (rw z at i.found.found).0 in
          let x = component_of j in
          added-same (append_assoc (weights_line (weights_of j))
          (component_line (component_states (weights_of j) (graph_of j)) (sum x.weights))
          (split_text j.q (ways j) x)
          ∙ rw (some, light, sym i.found.crowds ∙ ap is_none z) refl)
          (front then added-same (ap₂ (split_text j.q) e p) s)
