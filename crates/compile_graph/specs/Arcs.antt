-- The graph in work, as a flat list of edges in the order in which they were made, and the graph of words of a
-- constraint.
-- In order: Arc, an edge of the graph in work, and arc, one by its parts; Work; leaves, enters, out; word_from,
-- words_from, leads_on, power; Reads, what an edge of it says.
-- Assumes nothing.
use Rattle.std.specs.Prelude.{◌≡◌, Bool, not, List, map, ℕ, ◌^◌, ◌<◌, eqb, length}
use Rattle.laws.specs.Lists.{range, filter, concat}
use Rattle.constraint.specs.Walking.{Constraint, none, walk}

-- an edge of the graph in work: "source, word, target"
pub record Arc : Type 0 where
  pub source : ℕ
  pub word : ℕ
  pub target : ℕ

-- the edge from s with the word w to t
abbrev pub arc : ℕ → ℕ → ℕ → Arc
arc s w t = record { source = s; word = w; target = t }

-- the graph in work: the weight of each state, and the edges
pub record Work : Type 0 where
  pub weights : List ℕ
  pub arcs : List Arc

-- the edge is one out of s
abbrev pub leaves : ℕ → Arc → Bool
leaves s e = eqb e.source s

-- the edge is one into t
abbrev pub enters : ℕ → Arc → Bool
enters t e = eqb e.target t

-- the edges out of s
abbrev pub out : List Arc → ℕ → List Arc
out g s = filter (leaves s) g

-- the word w from state s, with the state to which it leads
abbrev pub word_from : Constraint → ℕ → ℕ → ℕ → Arc
word_from c q s w = arc s w (walk c q w s)

-- all words of q bits from state s
abbrev pub words_from : Constraint → ℕ → ℕ → List Arc
words_from c q s = map (word_from c q s) (range (2 ^ q))

-- the word leads to a state
abbrev pub leads_on : Arc → Bool
leads_on e = not (eqb e.target none)

-- the words of q bits that the constraint allows from each state (in the field: the q-th power of the constraint's
-- graph)
unfoldable pub power : Constraint → ℕ → List Arc
power c q = filter leads_on (concat (map (words_from c q) (range (length c))))

-- the constraint reads the word w of q bits from its state a, and is then in b
abbrev pub Reads : Constraint → ℕ → ℕ → ℕ → ℕ → Type 0
Reads c q a w b = (a < length c) × ((b ≡ walk c q w a) × (b ≡ none → ⊥) × (w < 2 ^ q))
