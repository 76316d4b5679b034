-- Sets of pairs of states in an array, for each first state its set of second states, and the tests by which the code
-- marks them.
-- In order: pairs_in; Long; row_has; takes, beyond, joins, joins_by, clashes_by, two edges with one word; Marked, what
-- a loop has marked.
-- Assumes nothing.
use Rattle.std.specs.Prelude.{Option, Some, None, ◌≡◌, Bool, true, not, ◌&&◌, ◌||◌, List, ℕ, ◌/◌, ◌%◌, ◌<◌, eqb, length}
use Rattle.laws.specs.Sets.{Pairs, grid}
use Rattle.table.specs.Marks.{some}
use Rattle.table.specs.Edges.{Arrays, places, next_of, bears}
use Rattle.bitsets.specs.declared.BitSet.{BitSet}
use Rattle.bitsets.specs.BitSets.{holds, set_at}
use Rattle.table_words.specs.Gathered.{carries}

-- the pairs of n states that the array A holds
unfoldable pub pairs_in : ℕ → List BitSet → Pairs
pairs_in n A = grid n n (λ x y. holds (set_at A x) y)

-- the array has a set for each of 128 states
abbrev pub Long : List BitSet → Type 0
Long A = length A ≡ 128

-- row x of A holds one of n states
abbrev pub row_has : ℕ → List BitSet → ℕ → Bool
row_has n A x = some (holds (set_at A x)) n

-- the edge i carries the datum k; where there is none, any edge
abbrev pub takes : Option ℕ → ℕ → Bool
takes None i = true
takes (Some k) i = eqb (i % 16) k

-- the edge j has the word w, does not carry the datum k, and leads from a state beside x in P to v
abbrev pub beyond : Arrays → List BitSet → ℕ → Option ℕ → ℕ → ℕ → ℕ → Bool
beyond t P w k x v j = bears t w j && (not (carries k j) && (holds (set_at P x) (j / 16) && eqb (next_of t j) v))

-- the edge i, which carries the datum k where that is one, and an edge with other data lead by the word w from a pair
-- of P to u and v
abbrev pub joins : Arrays → List BitSet → ℕ → Option ℕ → ℕ → ℕ → ℕ → Bool
joins t P w k u v i =
    bears t w i && (takes k i && (eqb (next_of t i) u && some (beyond t P w k (i / 16) v) (places t)))

-- two edges, as above, lead by the word w from a pair of P to u and v
abbrev pub joins_by : Arrays → List BitSet → Option ℕ → ℕ → ℕ → ℕ → Bool
joins_by t P k u v w = some (joins t P w k u v) (places t)

-- two edges with different data lead by the word w from a pair of P to u and v
abbrev pub clashes_by : Arrays → List BitSet → ℕ → ℕ → ℕ → Bool
clashes_by t P u v w = some (λ d. joins_by t P (Some d) u v w) t.ways

-- R is A with v put into row u wherever some turn below i hits the two
pub record Marked (A : List BitSet) (hit : ℕ → ℕ → ℕ → Bool) (i : ℕ) (R : List BitSet) : Type 0 where
  pub long : length R ≡ length A
  pub rows : (u v : ℕ) → u < 128 → holds (set_at R u) v ≡ (holds (set_at A u) v || some (hit u v) i)
