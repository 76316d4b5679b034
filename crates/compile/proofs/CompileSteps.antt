-- Compiling stage by stage: what each stage of the code needs, and what compiling comes to at each of its returns.
-- In order: compile-heavy, compile-crowded, compile-table; crowded-stays; weighed-bad, weighed-good; has-states,
-- held-powers, held-tabled, held-component, held-weights, held-computed, held-brought, held_low; found-begun; begun-splits,
-- begun-crowded, begun-room, begun-short, begun-work, begun-finished.
-- Assumes nothing.
use Rattle.std.proofs.Common.{None, Some, ◌≡◌, ◌&&◌, ◌^◌, ◌≤◌, ◌<◌}
use Rattle.laws.proofs.All.{sym, ap, ap₂, subst, ◌∙◌, Bool, true, false, not, List, ℕ, zero, suc}
use Rattle.laws.proofs.All.{arith, lt-ltb, le-leb, lt-leb, ltb-false, leb, length, get_or}
use Rattle.laws.proofs.All.{pow_mono, sum, take, get_or-take}
use Rattle.answer.specs.declared.Refusal.{Refusal}
use Rattle.answer.specs.declared.Refusal.TheVariants.{NoCode, TooHeavy, TooManyEdges, NoWindow}
use Rattle.answer.specs.Outcomes.{done, refused, unless}
use Rattle.answer.proofs.Outcomes.{unless-false, refused-not}
use Rattle.answer.proofs.RefusedOutcomes.{refused-inj}
use Rattle.compile_limits.specs.Weighed.{weighed}
use Rattle.compile_limits.proofs.Weighed.{weighed-by}
use Rattle.constraint.specs.Value.{constraint_of}
use Rattle.constraint.specs.PowerTable.{power_codes}
use Rattle.constraint.proofs.Values.{length-constraint_of}
use Rattle.window.specs.Search.{window}
use Rattle.compile_graph.specs.declared.Graph.{Graph}
use Rattle.compile_component.specs.declared.component_graph.ComponentAnswer.{ComponentAnswer}
use Rattle.compile_graph.specs.Weights.{weights}
use Rattle.compile_component.specs.ComponentParts.{FoundIn}
use Rattle.compile_graph.specs.Arcs.{Arc, Work}
use Rattle.compile_graph.specs.Splitting.{crowded, unfinished, splits, split_all}
use Rattle.compile_graph.specs.Invariant.{Inv}
use Rattle.compile_graph.specs.Value.{weights_in, work_in}
use Rattle.compile_weights.specs.PowerTable.{tabled, Powers}
use Rattle.compile_split.specs.SplitParts.{Splits, SplitAllInto, SplitAllTo}
use Rattle.compile_table.specs.Finishing.{Finished}
use Rattle.compile_table.proofs.Finishing.{split-finished}
use Rattle.compile_weights.proofs.Powers as tables
use Rattle.compile_graph.proofs.Loop.{splits-off}
use Rattle.compile_job.specs.declared.JobValue.{JobValue}
use Rattle.compile_job.specs.Jobs.{Job, Allowed}
use Rattle.compile_job.proofs.JobSteps.{unless-yes}
use Rattle.compile.specs.Compile.{ways, graph_of, greatest_of, weights_of, component_of, finished_of, table_for}
use Rattle.compile.specs.Compile.{code, compile}
use Rattle.compile_job.specs.JobValues.{job_in, JobReady}
use Rattle.compile.specs.Stages.{Begun}
use Rattle.compile.proofs.Compile.{ways-pos, in-use-vector, job-inv, compile-none}

-- ---- the outcome at each return
module _ (j : Job) where
  module _ (h : 0 < sum (component_of j).weights) where
    pub compile-heavy : 128 < sum (component_of j).weights → compile j ≡ refused TooHeavy
    unfolding compile
    compile-heavy g = unless-yes NoCode _ _ (lt-ltb _ _ h) ∙ unless-false TooHeavy _ _ (lt-leb _ _ g)

    module _ (l : sum (component_of j).weights ≤ 128) where
      pub compile-crowded : crowded (finished_of j) ≡ true → compile j ≡ refused TooManyEdges
      unfolding compile
      compile-crowded e =
          unless-yes NoCode _ _ (lt-ltb _ _ h) ∙ unless-yes TooHeavy _ _ (le-leb _ _ l)
          ∙ unless-false TooManyEdges _ _ (ap not e)

      pub compile-table : crowded (finished_of j) ≡ false
          → compile j ≡ unless NoWindow (leb (window (table_for j)).memory 15) (done (code j (table_for j)))
      unfolding compile
      compile-table e =
          unless-yes NoCode _ _ (lt-ltb _ _ h) ∙ unless-yes TooHeavy _ _ (le-leb _ _ l)
          ∙ unless-yes TooManyEdges _ _ (ap not e)

-- a graph with too many edges is not split
stays : (k n : ℕ) (x : Work) → crowded x ≡ true → crowded (splits k n x) ≡ true
unfolding splits
stays zero n x e = e
stays (suc k) n x e = ap crowded (splits-off k n x (ap (λ b. not b && unfinished n x) e)) ∙ e

pub crowded-stays : (n : ℕ) (x : Work) → crowded x ≡ true → crowded (split_all n x) ≡ true
unfolding split_all
crowded-stays n x e = stays (sum x.weights) n x e

-- ---- the component's weight and edges
module _ (j : Job) (total : ℕ) (b : Bool) (e : total ≡ sum (component_of j).weights) (q : b ≡ crowded (component_of j))
  where
    pub weighed-bad : (r : Refusal) → weighed total b ≡ refused r → compile j ≡ refused r
    weighed-bad r =
        weighed-by total b (λ o. o ≡ refused r → compile j ≡ refused r)
        (λ z x. compile-none j (sym e ∙ z) ∙ ap refused (refused-inj NoCode r x))
        (λ h l x. compile-heavy j (omega arith) (omega arith) ∙ ap refused (refused-inj TooHeavy r x))
        (λ h l c x.
        compile-crowded j (omega arith) (omega arith) (crowded-stays (ways j) (component_of j) (sym q ∙ c))
        ∙ ap refused (refused-inj TooManyEdges r x))
        (λ h l c x. absurd (refused-not r total (sym x)))

    pub weighed-good : weighed total b ≡ done total
        → (0 < sum (component_of j).weights) × (sum (component_of j).weights ≤ 128) × (b ≡ false)
    weighed-good =
        weighed-by total b
        (λ o. o ≡ done total → (0 < sum (component_of j).weights) × (sum (component_of j).weights ≤ 128) × (b ≡ false))
        (λ z x. absurd (refused-not NoCode total x))
        (λ h l x. absurd (refused-not TooHeavy total x))
        (λ h l c x. absurd (refused-not TooManyEdges total x))
        (λ h l c x. (omega arith, omega arith, c))

-- ---- the power table of a job
module _ (j : JobValue) (r : JobReady j) where
  pub has-states : 0 < j.constraint.states
  has-states = let k = r.allowed.k₁ in let l = length-constraint_of j.constraint in omega arith

  -- the table that the code holds
  module _ (P : List ℕ) (words : ℕ) (e : P ≡ power_codes (constraint_of j.constraint) j.q) (f : words ≡ 2 ^ j.q)
    where
      pub held-powers : Powers P words j.constraint.states
      held-powers =
          tables.held-powers j.constraint j.q r.limits r.allowed.q₂ r.allowed.well P words e f

      pub held-tabled : tabled P words j.constraint.states ≡ graph_of (job_in j)
      held-tabled =
          tables.held-tabled j.constraint j.q r.limits r.allowed.q₂ r.allowed.well P words e f

      -- THEOREM: the component that the code finds is the job's
      pub held-component : (v : List ℕ) → v ≡ weights_of (job_in j) → (x : ComponentAnswer)
          → FoundIn v (tabled P words j.constraint.states) x → FoundIn (weights_of (job_in j)) (graph_of (job_in j)) x
      held-component v q x h =
          subst (λ y. FoundIn y (graph_of (job_in j)) x) q (subst (λ y. FoundIn v y x) held-tabled h)

  -- the weights that the code finds are the greatest
  pub held-weights : (g : List Arc) (n : ℕ) (v : List ℕ) → g ≡ graph_of (job_in j) → n ≡ ways (job_in j)
      → v ≡ weights n j.cap j.constraint.states g → v ≡ greatest_of (job_in j)
  held-weights g n v e p q =
      q ∙ ap₂ (λ m k. weights m j.cap k g) p (sym (length-constraint_of j.constraint))
      ∙ ap (weights (ways (job_in j)) j.cap (length (job_in j).constraint)) e

  -- and where the job brings none, they are in use; otherwise those that it brings are
  pub held-computed : j.brings ≡ false → greatest_of (job_in j) ≡ weights_of (job_in j)
  held-computed e = rw e

  pub held-brought : j.brings ≡ true → take j.constraint.states j.weight ≡ weights_of (job_in j)
  held-brought e = rw e

  pub held_low : j.brings ≡ true → (s : ℕ) → s < j.constraint.states → get_or j.weight s 0 ≤ 16
  held_low e s h =
      let v = (in-use-vector (job_in j) r.allowed).capped s in
      let q : get_or (weights_of (job_in j)) s 0 ≡ get_or j.weight s 0 =
      ap (λ v. get_or v s 0) (sym (held-brought e)) ∙ get_or-take j.constraint.states j.weight s 0 h in
      omega (arith, r.allowed.cap₂)

-- ---- the component that was found
pub found-begun : (j : Job) (n : ℕ) (x : ComponentAnswer) (g : Graph) → FoundIn (weights_of j) (graph_of j) x
    → x.graph ≡ Some g → n ≡ ways j → 0 < sum (component_of j).weights → sum (component_of j).weights ≤ 128
    → Begun j n g x.start
found-begun j n x g f e c s l =
    let p = rw e at f.found in
    record { count = c; work = p.0; fits = p.1; first = f.start; some = s; light = l }

-- ---- the component, split to the end
module _ (j : Job) (a : Allowed j) (n : ℕ) (g : Graph) (start : ℕ) (b : Begun j n g start) where
  few : n ≤ 16
  few = let e = b.count in let h : 2 ^ j.p ≤ 2 ^ 4 = pow_mono a.p₂ in omega arith

  same : split_all n (work_in g) ≡ finished_of j
  same = ap₂ split_all b.count b.work

  pub begun-splits : Splits n g
  begun-splits = record {
    fits = b.fits;
    some = let e = b.count in let h = ways-pos j in omega arith;
    few = few;
    inv = subst (λ x. Inv n (sum x.weights) x) (sym b.work)
        (subst (λ m. Inv m (sum (component_of j).weights) (component_of j)) (sym b.count) (job-inv j a b.some));
    weighs = subst (λ x. sum x.weights ≤ 128) (sym b.work) b.light;
  }

  pub begun-crowded : SplitAllInto n g None → crowded (finished_of j) ≡ true
  begun-crowded e = ap crowded (sym same) ∙ e

  module _ (r : Graph) (s : SplitAllTo n g r) where
    pub begun-room : crowded (finished_of j) ≡ false
    begun-room = ap crowded (sym same) ∙ s.room

    pub begun-short : length (finished_of j).arcs ≤ 2048
    begun-short = ltb-false 2048 (length (finished_of j).arcs) begun-room

    pub begun-work : work_in r ≡ finished_of j
    begun-work = s.work ∙ same

    pub begun-finished : Finished n r
    begun-finished =
        let p = begun-splits in
        split-finished n (sum (weights_in g)) (work_in g) p.some few p.inv
        (subst (λ x. 0 < sum x.weights) (sym b.work) b.some) r s.fits s.work
