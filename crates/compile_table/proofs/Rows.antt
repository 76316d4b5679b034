-- The first edges of each state, and what is reachable by them.
-- In order: firsts, reach; row-each, inside-firsts, reach-row.
-- Assumes nothing.
use Rattle.std.proofs.Common.{◌≡◌, ◌<◌}
use Rattle.laws.proofs.All.{Bool, List, map, ℕ, T, eqb→eq, range, concat, Each, each_map, each-always}
use Rattle.laws.proofs.All.{each_both, each-filter, each_take, each-union, union-each, elem-each, elem-range}
use Rattle.compile_graph.specs.Invariant.{Inside}
use Rattle.compile_graph.specs.Arcs.{Arc, leaves, out}
use Rattle.compile_graph.specs.Splitting.{sort}
use Rattle.compile_graph.specs.Component.{reachings, reaches}
use Rattle.compile_table.specs.TableOf.{row}
use Rattle.compile_graph.proofs.Candidates.{each-sort}
use Rattle.compile_graph.proofs.Reach.{reaches-is, reach-trans, reach-edge}

-- what holds of each edge holds of each in a row, and those start at the row's state
pub row-each : (n : ℕ) (g : List Arc) (P : Arc → Type 0) → Each P g → (s : ℕ)
    → Each (λ e. P e × (e.source ≡ s)) (row n g s)
row-each n g P h s =
    each_take _ n (sort (out g s)) (each-sort _ (out g s) (each-filter (λ e. P e × (e.source ≡ s)) (leaves s) g
    (each_map P _ (λ e p t. (p, eqb→eq e.source s t)) g h)))

module _ (n K : ℕ) (g : List Arc) (i : Each (Inside K) g) where
  abbrev pub firsts : List Arc
  firsts = concat (map (row n g) (range K))

  abbrev pub reach : ℕ → ℕ → Bool
  reach = reaches (reachings K firsts)

  inside-firsts : Each (Inside K) firsts
  inside-firsts = each-union (Inside K) (row n g) (range K)
      (each-always _ (λ s. each_map _ (Inside K) (λ e h. h.0) (row n g s) (row-each n g (Inside K) i s)) (range K))

  -- the first edges of a state reached lead to states reached
  pub reach-row : (s : ℕ) → s < K → T (reach 0 s) → Each (λ e. Inside K e × T (reach 0 e.target)) (row n g s)
  reach-row s h u =
      each_map _ (λ e. Inside K e × T (reach 0 e.target))
      (λ e p. (
        p.0.0,
        reach-trans K firsts reach (reaches-is K firsts) inside-firsts 0 e.source e.target
            p.0.0.0 p.0.0.1 (rw p.0.1 u) p.1,
      )) (row n g s)
      (each_both _ _ (row n g s) (row-each n g (Inside K) i s)
      (elem-each (λ s. Each (λ e. T (reach e.source e.target)) (row n g s)) s (range K) (elem-range K s h)
      (union-each (λ e. T (reach e.source e.target)) (row n g) (range K)
      (reach-edge K firsts reach (reaches-is K firsts) inside-firsts))))
