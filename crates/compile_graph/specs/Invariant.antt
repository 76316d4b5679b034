-- What every split keeps.
-- In order: Inside; Stays, Joined, irreducible; count, how often an edge occurs; Inv; Part, what a split must bring.
-- Assumes nothing.
use Rattle.std.specs.Prelude.{◌≡◌, Bool, List, ℕ, ◌*◌, ◌≤◌, ◌<◌, T, length, get_or}
use Rattle.laws.specs.Lists.{sum}
use Rattle.laws.specs.Sums.{Each, tot, one}
use Rattle.compile_graph.specs.Arcs.{Arc, Work, out}
use Rattle.compile_graph.specs.Weights.{total}
use Rattle.compile_graph.specs.Splitting.{same}

-- the edge leads from one of K states to one
abbrev pub Inside : ℕ → Arc → Type 0
Inside K e = (e.source < K) × (e.target < K)

-- the edge does not leave the set Q
abbrev pub Stays : (ℕ → Bool) → Arc → Type 0
Stays Q e = T (Q e.source) → T (Q e.target)

-- irreducible: a set of states with a member and no edge out of it is the set of all states
abbrev pub Joined : ℕ → List Arc → Type 0
Joined K g = (Q : ℕ → Bool) → Each (Stays Q) g → (x : ℕ) → x < K → T (Q x) → (y : ℕ) → y < K → T (Q y)

-- how often e is among the edges
abbrev pub count : Arc → List Arc → ℕ
count e l = tot (one (same e)) l

-- weights above 0 that sum to S, edges among the states, each once, that lead to weight enough, and all joined
pub record Inv (n S : ℕ) (x : Work) : Type 0 where
  pub positive : (s : ℕ) → s < length x.weights → 0 < get_or x.weights s 0
  pub whole : sum x.weights ≡ S
  pub inside : Each (Inside (length x.weights)) x.arcs
  pub enough : (s : ℕ) → s < length x.weights → get_or x.weights s 0 * n ≤ total x.weights (out x.arcs s)
  pub distinct : (e : Arc) → count e x.arcs ≤ 1
  pub joined : Joined (length x.weights) x.arcs

-- a state s, edges of it to keep and a weight w for it: the edges lead to weight n × w, and 0 < w < M
pub record Part (n : ℕ) (x : Work) (s : ℕ) (keep : List Arc) (w : ℕ) : Type 0 where
  pub state : s < length x.weights
  pub some : 0 < w
  pub less : w < get_or x.weights s 0
  pub exact : total x.weights keep ≡ w * n
  pub own : (e : Arc) → count e keep ≤ count e (out x.arcs s)
