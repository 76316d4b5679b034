-- The component of a job, as the code holds it.
-- In order: members-are; splits-ready.
-- Assumes nothing.
use Rattle.std.proofs.Common.{Some, ◌≡◌, ◌*◌, ◌/◌, ◌%◌, ◌≤◌, ◌<◌}
use Rattle.laws.proofs.All.{sym, ap, subst, ◌∙◌, Bool, false, List, ℕ, arith}
use Rattle.laws.proofs.All.{length, get_or, take, length-take-le, sum, filter, first}
use Rattle.compile_graph.specs.declared.Graph.{Graph}
use Rattle.compile_graph.specs.Arcs.{Arc}
use Rattle.compile_graph.specs.Component.{within, reachings, reaches, returning, live, component_states}
use Rattle.compile_reach.specs.ReachSets.{rows_of, Linked, live_edge}
use Rattle.compile_weights.specs.PowerTable.{tabled, Powers, word_count}
use Rattle.compile_component.proofs.LiveArcs.{linked-is}
use Rattle.compile_job.specs.Jobs.{Job, Allowed}
use Rattle.compile.specs.Compile.{ways}
use Rattle.compile.proofs.CompileSteps.{found-begun, begun-splits}
use Rattle.trace_splits.specs.ChoiceParts.{Begins}
use Rattle.trace.specs.declared.beginnings.Beginning.{Beginning}
use Rattle.trace.specs.Beginnings.{FoundOf}

-- the states that the code lists are the component's
pub members-are : {P : List ℕ} {words k : ℕ} → Powers P words k → (v : List ℕ) → length v ≡ 16 → (n : List ℕ)
    → ((x : ℕ) → x < k * 16 → (get_or n x 0 ≡ word_count P words (x / 16) (x % 16)) × (get_or n x 0 ≤ 256))
    → (E : List Bool) → ((x : ℕ) → x < k * 16 → get_or E x false ≡ live_edge n v x)
    → (M : List Bool) → ((g : List Arc) → Linked E k g → rows_of M k ≡ reachings k g)
    → {s : ℕ} → s ≡ first (returning (rows_of M k) (live (take k v))) 0 (live (take k v))
    → {C : List ℕ} → C ≡ filter (reaches (rows_of M k) s) (live (take k v))
    → C ≡ component_states (take k v) (tabled P words k)
unfolding component_states
members-are {P} {words} {k} pw v long n counts E edges M reach lowest is =
    let U = take k v in
    let g = tabled P words k in
    let rows = reach (within (live U) g)
    (linked-is v k pw.states long P words pw n E (λ x h. (counts x h).0) edges) in
    is ∙ ap (λ x. filter (reaches (rows_of M k) x) (live U)) lowest
    ∙ ap (λ R. filter (reaches R (first (returning R (live U)) 0 (live U))) (live U)) rows
    ∙ ap (λ n. let R = reachings n (within (live U) g) in
    filter (reaches R (first (returning R (live U)) 0 (live U))) (live U))
    (sym (length-take-le k v (let h = pw.states in omega arith)))

-- THEOREM: a component that weighs from 1 to 128 is split
pub splits-ready : {j : Job} {k : ℕ} {b : Beginning} → FoundOf j k b → Allowed j → {n : ℕ} → n ≡ ways j
    → (b.found.total ≡ 0 → ⊥) → b.found.total ≤ 128 → {g : Graph} → b.found.graph ≡ Some g
    → {q : ℕ} → j.q ≡ q → Begins n q g
splits-ready {j} {k} {b} i a {n} ways-are some light {g} e f =
    let begun = found-begun j n b.found g i.found e ways-are (omega (arith, i.found.total, some))
    (omega (arith, i.found.total)) in
    subst (λ q. Begins n q g) f record {
      narrow = a.q₂;
      splits = begun-splits j a n g b.found.start begun;
      weighs = subst (λ x. 0 < sum x.weights) (sym begun.work) begun.some;
    }
