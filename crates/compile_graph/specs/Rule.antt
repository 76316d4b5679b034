-- What one split goes by: the state, the list of its edges and the run in it, each as the rule asks.
-- In order: Rule.
-- Assumes nothing.
use Rattle.std.specs.Prelude.{◌≡◌, List, ℕ, ◌/◌, ◌≤◌, ◌<◌, T, length, get_or}
use Rattle.compile_graph.specs.Arcs.{Arc, arc, Work}
use Rattle.compile_graph.specs.Weights.{total}
use Rattle.compile_graph.specs.Splitting.{lighter, splittable, stretch, divisible}
use Rattle.compile_graph.specs.Invariant.{Part}

-- s is "the lowest state s among those of greatest weight M that have an edge to a lighter state"; the list has n
-- edges, in front one to a lighter state; the edges to keep are a run in it, of those "whose targets' weights sum to a
-- multiple of n" "the one that ends first"; it sums to n × w with 0 < w < M
pub record Rule (n : ℕ) (x : Work) (s : ℕ) (list keep : List Arc) : Type 0 where
  pub ripe : T (splittable x.weights x.arcs s)
  pub lowest : (t : ℕ) → t < s → T (splittable x.weights x.arcs t) → ⊥
  pub listed : length list ≡ n
  pub light : T (lighter x.weights (get_or x.weights s 0) (get_or list 0 (arc 0 0 0)))
  pub last : ℕ
  pub others : ℕ
  pub inside : last < n
  pub begins : others ≤ last
  pub run : keep ≡ stretch list last others
  pub first : (j i : ℕ) → j < last → i ≤ j → T (divisible n x.weights (stretch list j i)) → ⊥
  pub part : Part n x s keep (total x.weights keep / n)
