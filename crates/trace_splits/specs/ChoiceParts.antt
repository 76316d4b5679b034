-- What the code needs of a graph, and what it finds of a split before it takes it.
-- In order: key_text, an edge by its key; Begins, Ripe, what all splits need, and what one; ChosenIn, the
-- choice of the rule.
-- Assumes nothing.
use Rattle.std.specs.Prelude.{◌≡◌, List, ℕ, ◌+◌, ◌/◌, ◌%◌, ◌≤◌, ◌<◌, T, length, get_or}
use Rattle.laws.specs.Lists.{any, range, sum}
use Rattle.compile_graph.specs.declared.Graph.{Graph}
use Rattle.compile_graph.specs.Arcs.{Work}
use Rattle.compile_graph.specs.Weights.{total}
use Rattle.compile_graph.specs.Splitting.{splittable, chosen, kept}
use Rattle.compile_graph.specs.Value.{weights_in, arcs_in, Fits}
use Rattle.compile_order.specs.EdgeKeys.{keys_in}
use Rattle.compile_split.specs.SplitParts.{Splits, kept_arcs}
use Rattle.trace_splits.specs.declared.choices.Choice.{Choice}
use Rattle.trace_splits.specs.SplitText.{edge_text}

-- the edge with this key
abbrev pub key_text : ℕ → ℕ → List ℕ
key_text q k = edge_text q (k / 128) (k % 128)

-- a graph that all splits serve, which weighs something, and words of at most 8 bits
pub record Begins (n q : ℕ) (g : Graph) : Type 0 where
  pub narrow : q ≤ 8
  pub splits : Splits n g
  pub weighs : 0 < sum (weights_in g)

-- a graph with room for a state more, of which the rule names a state to split
abbrev pub Ripe : ℕ → Graph → Type 0
Ripe n g =
    Fits g × (g.states < 128) × (0 < n) × (n ≤ 16)
    × T (any (splittable (weights_in g) (arcs_in g)) (range (length (weights_in g))))

-- the state, its weight, the edges that it keeps, its share, and the number of the new state are those of the rule;
-- the run lies in the keys, and the share is no more than the weight
pub record ChosenIn (n : ℕ) (x : Work) (c : Choice) : Type 0 where
  pub state : c.state ≡ chosen x.weights x.arcs
  pub weight : c.weight ≡ get_or x.weights c.state 0
  pub edges : kept_arcs c.state (keys_in c.keys) c.run ≡ kept n x.weights x.arcs c.state
  pub share : c.share ≡ total x.weights (kept n x.weights x.arcs c.state) / n
  pub fresh : c.fresh ≡ length x.weights
  pub inside : c.run.from + c.run.count ≤ length (keys_in c.keys)
  pub less : c.share ≤ c.weight
