-- "Weights" (in the field: an approximate eigenvector of the graph of words).
-- In order: words_between, A(s, t); term, product, A v; Enough, the inequality; AtMost, the order of vectors; lower,
-- lowered, weights; low, weighty, meets, passing, Passing, weights that are brought; weight and total, the weights to
-- which edges lead.
-- Assumes nothing.
use Rattle.std.specs.Prelude.{Bool, ◌&&◌, List, map, ℕ, ◌*◌, ◌/◌, ◌≤◌, ◌<◌, min, ltb, leb, length, get_or, replicate}
use Rattle.laws.specs.Lists.{range, sum, filter, any, all, iterate}
use Rattle.laws.specs.Sums.{tot}
use Rattle.compile_graph.specs.Arcs.{Arc, enters, out}

-- "A(s, t) counts the words leading from s to t"
abbrev pub words_between : List Arc → ℕ → ℕ → ℕ
words_between g s t = length (filter (enters t) (out g s))

-- A(s, t) × weight(t)
abbrev pub term : List Arc → List ℕ → ℕ → ℕ → ℕ
term g v s t = words_between g s t * get_or v t 0

-- "the sum over t of A(s, t) × weight(t)"
abbrev pub product : List Arc → List ℕ → ℕ → ℕ
product g v s = tot (term g v s) (range (length v))

-- the inequality "A v ≥ n v"
abbrev pub Enough : ℕ → List Arc → List ℕ → Type 0
Enough n g v = (s : ℕ) → get_or v s 0 * n ≤ product g v s

-- u is at most v in every entry
abbrev pub AtMost : List ℕ → List ℕ → Type 0
AtMost u v = (s : ℕ) → get_or u s 0 ≤ get_or v s 0

-- "the smaller of the old weight and the sum, divided by n and rounded down"
abbrev pub lower : ℕ → List Arc → List ℕ → ℕ → ℕ
lower n g v s = min (get_or v s 0) (product g v s / n)

-- "replace all weights together"
abbrev pub lowered : ℕ → List Arc → List ℕ → List ℕ
lowered n g v = map (lower n g v) (range (length v))

-- "Start with cap at every state [..] until nothing changes": each round that changes something takes at least 1 away,
-- so K × cap rounds are enough
unfoldable pub weights : ℕ → ℕ → ℕ → List Arc → List ℕ
weights n cap K g = iterate (lowered n g) (K * cap) (replicate K cap)

-- the weight of state s is at most cap
abbrev pub low : ℕ → List ℕ → ℕ → Bool
low cap v s = leb (get_or v s 0) cap

-- it is above 0
abbrev pub weighty : List ℕ → ℕ → Bool
weighty v s = ltb 0 (get_or v s 0)

-- the inequality at state s
abbrev pub meets : ℕ → List Arc → List ℕ → ℕ → Bool
meets n g v s = leb (get_or v s 0 * n) (product g v s)

-- weights that are brought "must be at most cap, not all 0, and meet the inequality at each state of the constraint"
unfoldable pub passing : ℕ → ℕ → List Arc → List ℕ → Bool
passing n cap g v =
    let S = range (length v) in
    all (low cap v) S && (any (weighty v) S && all (meets n g v) S)

-- what that test means
pub record Passing (n cap : ℕ) (g : List Arc) (v : List ℕ) : Type 0 where
  pub capped : (s : ℕ) → get_or v s 0 ≤ cap
  pub some : (s : ℕ) × (0 < get_or v s 0)
  pub enough : Enough n g v

-- the weight of the state to which an edge leads
abbrev pub weight : List ℕ → Arc → ℕ
weight v e = get_or v e.target 0

-- the weights of the states to which edges lead, summed
abbrev pub total : List ℕ → List Arc → ℕ
total v es = sum (map (weight v) es)
