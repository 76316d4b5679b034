-- The component that compiling takes, every split that it makes and the table of the last graph go by the rule.
-- In order: component; each-split, last-split, splits-by-rule; split-list; table-rule.
-- Assumes nothing.
use Rattle.std.proofs.Common.{◌≡◌, ◌↔◌, ◌⊎◌, ◌∷◌, ◌+◌, ◌≤◌, ◌<◌}
use Rattle.laws.proofs.All.{sym, subst, false, List, [], map, ℕ, suc, zero-le}
use Rattle.laws.proofs.All.{suc-le-suc, le_trans, not-suc-le-zero, T, length, get_or, take, range, concat, any, sum}
use Rattle.laws.proofs.All.{elem, one, T→true, bool_eq}
use Rattle.table.specs.Rows.{at}
use Rattle.compile_graph.specs.Arcs.{Arc, arc, Work, out}
use Rattle.compile_graph.specs.Component.{within, live, component_states}
use Rattle.compile_graph.specs.Invariant.{count, Inv}
use Rattle.compile_graph.specs.Splitting.{sort, same, greatest, lighter, chosen, candidates, kept, split}
use Rattle.compile_graph.specs.Splitting.{goes_on, splits}
use Rattle.compile_graph.specs.Rule.{Rule}
use Rattle.compile_graph.specs.Reachable.{Reachable, IsComponent}
use Rattle.compile_graph.proofs.Arcs.{tot-sort}
use Rattle.compile_graph.proofs.InOrder.{edges-rise}
use Rattle.compile_graph.proofs.SplitList.{candidates-by}
use Rattle.compile_graph.proofs.Candidates.{any-sort}
use Rattle.compile_graph.proofs.Choice.{Chosen, chosen_is}
use Rattle.compile_graph.proofs.PartedInv.{count-out}
use Rattle.compile_graph.proofs.Loop.{short, splitted-end, splitted-full}
use Rattle.compile_graph.proofs.Passed.{splits-inv, each-passed, splits_last}
use Rattle.compile_graph.proofs.Reachable.{component-is}
use Rattle.compile_table.specs.TableOf.{table_states, table_of}
use Rattle.compile_table.proofs.TableOf.{table-length, reached, row-edges, reached-first, states-rise}
use Rattle.compile_job.specs.Jobs.{Job, Allowed}
use Rattle.compile.specs.Compile.{ways, graph_of, weights_of, component_of, start_of, finished_of}
use Rattle.compile.proofs.Compile.{ways-pos, job-inside, job-live, job-inv}

module _ (j : Job) (a : Allowed j) (h : 0 < sum (component_of j).weights) where
  -- of the states of weight above 0 those of the component, from the start on
  pub component : IsComponent (weights_of j) (within (live (weights_of j)) (graph_of j)) (start_of j)
      (component_states (weights_of j) (graph_of j))
  component =
      let (z, ez) = job-live j a h in
      component-is (weights_of j) (graph_of j) (job-inside j a) z ez

  -- the graph after k splits, while splitting goes on: the next is its split, by the rule's state, list and run
  pub each-split : (k : ℕ) → let n = ways j in let x = splits k n (component_of j) in
      let s = chosen x.weights x.arcs in T (goes_on n x)
      → (splits (suc k) n (component_of j) ≡ split n x)
      × Rule n x s (candidates n x.weights (get_or x.weights s 0) (sort (out x.arcs s)))
      (kept n x.weights x.arcs s)
  each-split k t =
      each-passed (ways j) (sum (component_of j).weights) (ways-pos j) (component_of j) (job-inv j a h) k
      (T→true (goes_on (ways j) (splits k (ways j) (component_of j))) t)

  -- the graph in which it ends is the finished one
  pub last-split : (k : ℕ) → (T (goes_on (ways j) (splits k (ways j) (component_of j))) → ⊥)
      → finished_of j ≡ splits k (ways j) (component_of j)
  last-split k n =
      splits_last (ways j) (sum (component_of j).weights) (ways-pos j) (component_of j) (job-inv j a h) k
      (bool_eq (goes_on (ways j) (splits k (ways j) (component_of j))) false n (λ e. absurd e))

  pub splits-by-rule : (k : ℕ) → let n = ways j in let x = splits k n (component_of j) in
      let s = chosen x.weights x.arcs in (T (goes_on n x) → (splits (suc k) n (component_of j) ≡ split n x)
      × Rule n x s (candidates n x.weights (get_or x.weights s 0) (sort (out x.arcs s)))
      (kept n x.weights x.arcs s)) × ((T (goes_on n x) → ⊥) → finished_of j ≡ x)
  splits-by-rule k = (each-split k, last-split k)

  -- the list of a split: the first edge to a lighter state by word, then target, then the first of the others
  pub split-list : (k : ℕ) → let n = ways j in let x = splits k n (component_of j) in let v = x.weights in
      let s = chosen v x.arcs in T (goes_on n x)
      → let es = sort (out x.arcs s) in let l = candidates n v (get_or v s 0) es in let o = arc 0 0 0 in
      ((i k : ℕ) → i < k → k < length es → let e = get_or es i o in let f = get_or es k o in
      (e.word < f.word) ⊎ ((e.word ≡ f.word) × (e.target < f.target)))
      × ((e : Arc) → count e es ≡ count e (out x.arcs s))
      × ((p : ℕ) × (p < length es) × (get_or l 0 o ≡ get_or es p o) × (get_or v (get_or es p o).target 0 < get_or v s 0)
      × ((i : ℕ) → i < p → get_or v s 0 ≤ get_or v (get_or es i o).target 0)
      × ((i : ℕ) → i < p → i + 1 < n → get_or l (i + 1) o ≡ get_or es i o)
      × ((i : ℕ) → p < i → i < n → get_or l i o ≡ get_or es i o))
  split-list k t = (
    edges-rise x.arcs I.distinct s,
    λ e. tot-sort (one (same e)) (out x.arcs s),
    candidates-by (ways j) x.weights (get_or x.weights s 0) (sort (out x.arcs s))
        (λ e. rw (tot-sort (one (same e)) (out x.arcs s)) (le_trans (count-out x.arcs s e) (I.distinct e)))
        (subst (λ M. T (any (lighter x.weights M) (sort (out x.arcs s)))) (sym is.heavy)
        (any-sort (lighter x.weights (greatest x.weights)) (out x.arcs s) is.light)),
  )
    where
      S : ℕ
      S = sum (component_of j).weights

      x : Work
      x = splits k (ways j) (component_of j)

      s : ℕ
      s = chosen x.weights x.arcs

      I : Inv (ways j) S x
      I = splits-inv (ways j) S (ways-pos j) k (component_of j) (job-inv j a h)

      is : Chosen (ways j) S x I s
      is = chosen_is (ways j) S x I (short (ways j) x (T→true (goes_on (ways j) x) t))

  -- the table of the finished graph has the states that the first n edges by word, then target, reach from state 0, in
  -- their order, and these edges
  pub table-rule : length (finished_of j).arcs ≤ 2048
      → let n = ways j in let x = finished_of j in let t = table_of n x in
      (S : List ℕ) × (length S ≡ length t) × (get_or S 0 0 ≡ 0)
      × ((i k : ℕ) → i < k → k < length S → get_or S i 0 < get_or S k 0)
      × ((s : ℕ) → T (elem s S)
      ↔ Reachable (concat (map (λ s. take n (sort (out x.arcs s))) (range (length x.weights)))) 0 s)
      × ((i d : ℕ) → i < length t → d < n → let e = get_or (sort (out x.arcs (get_or S i 0))) d (arc 0 0 0) in
      ((at t i d).word ≡ e.word) × ((at t i d).next < length t) × (get_or S (at t i d).next 0 ≡ e.target))
      × ((s : ℕ) → let es = sort (out x.arcs s) in ((e : Arc) → count e es ≡ count e (out x.arcs s))
      × ((i k : ℕ) → i < k → k < length es → let e = get_or es i (arc 0 0 0) in let f = get_or es k (arc 0 0 0) in
      (e.word < f.word) ⊎ ((e.word ≡ f.word) × (e.target < f.target))))
  table-rule few = (
    table_states n x,
    sym (table-length n x I.inside pos),
    reached-first n x pos,
    states-rise n x,
    reached n x I.inside pos,
    row-edges n x I.inside pos (splitted-full n (sum (component_of j).weights) (ways-pos j) (component_of j)
        (job-inv j a h) few),
    λ s. (λ e. tot-sort (one (same e)) (out x.arcs s), edges-rise x.arcs I.distinct s),
  )
    where
      n : ℕ
      n = ways j

      x : Work
      x = finished_of j

      I : Inv n (sum (component_of j).weights) x
      I = (splitted-end n (sum (component_of j).weights) (ways-pos j) (component_of j) (job-inv j a h)).0

      some : (v : List ℕ) → 0 < sum v → 0 < length v
      some [] k = absurd (not-suc-le-zero k)
      some (w ∷ v) k = suc-le-suc zero-le

      pos : 0 < length x.weights
      pos = some x.weights (rw I.whole h)
