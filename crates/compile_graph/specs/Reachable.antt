-- Reaching by its meaning, without a search: what the tests of the component come to.
-- In order: Reachable; ReachedBack; IsComponent.
-- Assumes nothing.
use Rattle.std.specs.Prelude.{◌↔◌, Bool, List, ℕ, ◌<◌, T, get_or}
use Rattle.laws.specs.Lists.{elem}
use Rattle.laws.specs.Sums.{Each}
use Rattle.compile_graph.specs.Arcs.{Arc}
use Rattle.compile_graph.specs.Invariant.{Stays}

-- t is reachable from s by the edges: it is in every set of states that holds s and that no edge leaves
abbrev pub Reachable : List Arc → ℕ → ℕ → Type 0
Reachable g s t = (Q : ℕ → Bool) → Each (Stays Q) g → T (Q s) → T (Q t)

-- "every state reachable from it can reach back"
abbrev pub ReachedBack : List Arc → ℕ → Type 0
ReachedBack g s = (t : ℕ) → Reachable g s t → Reachable g t s

-- C is the component, s its start: "the lowest state that every state reachable from it can reach back, and all states
-- reachable from it", of the states of weight above 0 and the edges g among them
pub record IsComponent (v : List ℕ) (g : List Arc) (s : ℕ) (C : List ℕ) : Type 0 where
  pub live : 0 < get_or v s 0
  pub back : ReachedBack g s
  pub lowest : (u : ℕ) → u < s → 0 < get_or v u 0 → ReachedBack g u → ⊥
  pub states : (t : ℕ) → T (elem t C) ↔ Reachable g s t
