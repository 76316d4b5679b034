-- What the parts of a split answer.
-- In order: kept_arcs; Weighed, the last step of a split; PartedInto, SplitTo, SplitInto, the answer of a split; Splits,
-- SplitAllTo, SplitAllInto, all splits.
-- Assumes nothing.
use Rattle.std.specs.Prelude.{◌≡◌, true, false, Option, Some, None, List, [], ◌∷◌, ◌++◌, map, take, drop, ℕ, ◌+◌, ◌-◌, ◌/◌, ◌≤◌, ◌<◌, get_or, set}
use Rattle.laws.specs.Lists.{sum}
use Rattle.compile_graph.specs.declared.Graph.{Graph}
use Rattle.compile_choice.specs.declared.find_run.Run.{Run}
use Rattle.compile_graph.specs.Arcs.{Arc}
use Rattle.compile_graph.specs.Weights.{total}
use Rattle.compile_graph.specs.Splitting.{kept, parted, split, split_all, crowded}
use Rattle.compile_graph.specs.Invariant.{Inv}
use Rattle.compile_graph.specs.Value.{arcs_in, weights_in, work_in, Fits}
use Rattle.compile_order.specs.EdgeKeys.{arc_of}

-- the edges of s that a run of keys keeps
abbrev pub kept_arcs : ℕ → List ℕ → Run → List Arc
kept_arcs s l r = map (arc_of s) (take r.count (drop r.from l))

-- r is g, but s has weight w, "and a new last state" what is left of its weight
pub record Weighed (g : Graph) (s w : ℕ) (r : Graph) : Type 0 where
  pub weights : weights_in r ≡ set (weights_in g) s w ++ ((get_or (weights_in g) s 0 - w) ∷ [])
  pub arcs : arcs_in r ≡ arcs_in g
  pub edges : r.edges ≡ g.edges
  pub states : r.states ≡ g.states + 1

-- r is g with s split by the rule
pub record PartedInto (n : ℕ) (g : Graph) (s : ℕ) (r : Graph) : Type 0 where
  pub work : work_in r ≡ parted s (kept n (weights_in g) (arcs_in g) s)
      (total (weights_in g) (kept n (weights_in g) (arcs_in g) s) / n) (work_in g)
  pub fits : Fits r

-- h is g after a split, which makes no more than 2,048 edges
pub record SplitTo (n : ℕ) (g h : Graph) : Type 0 where
  pub room : crowded (split n (work_in g)) ≡ false
  pub work : work_in h ≡ split n (work_in g)
  pub fits : Fits h

-- r is g after a split, or says that it would have "over 2,048 edges"
abbrev pub SplitInto : ℕ → Graph → Option Graph → Type 0
SplitInto n g None = crowded (split n (work_in g)) ≡ true
SplitInto n g (Some h) = SplitTo n g h

-- a graph that all splits serve: it keeps to its arrays and to what every split keeps, and weighs at most 128
pub record Splits (n : ℕ) (g : Graph) : Type 0 where
  pub fits : Fits g
  pub some : 0 < n
  pub few : n ≤ 16
  pub inv : Inv n (sum (weights_in g)) (work_in g)
  pub weighs : sum (weights_in g) ≤ 128

-- h is g after all splits, which make no more than 2,048 edges
pub record SplitAllTo (n : ℕ) (g h : Graph) : Type 0 where
  pub room : crowded (split_all n (work_in g)) ≡ false
  pub work : work_in h ≡ split_all n (work_in g)
  pub fits : Fits h

-- r is g after all splits, or says that there were "over 2,048 edges"
abbrev pub SplitAllInto : ℕ → Graph → Option Graph → Type 0
SplitAllInto n g None = crowded (split_all n (work_in g)) ≡ true
SplitAllInto n g (Some h) = SplitAllTo n g h
