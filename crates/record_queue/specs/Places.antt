-- Pairs of a table state and a constraint state by places: the pair of s and k has the place s * 16 + k, below 2,048;
-- the arrays are the table's words and next states and the power table in bytes.
-- In order: state_after, pair_after, finds_at, one edge; absent, Queue, Grown, the list of places still to be followed.
-- Assumes nothing.
use Rattle.std.specs.Prelude.{if◌then◌else◌, ◌≡◌, ◌⊎◌, Bool, not, List, ℕ, ◌+◌, ◌*◌, ◌/◌, ◌%◌, ◌≤◌, ◌<◌, T, eqb, length}
use Rattle.std.specs.Prelude.{get_or}
use Rattle.laws.specs.Sums.{tot, one}
use Rattle.laws.specs.Sets.{member}
use Rattle.constraint.specs.Walking.{none}

-- the constraint state to which the word of datum d leads from the pair at x
abbrev pub state_after : List ℕ → List ℕ → ℕ → ℕ → ℕ
state_after word power x d = get_or power (x % 16 * 256 + get_or word (x / 16 * 16 + d) 0) 0

-- the place of the pair to which datum d carries the pair at x, 2,048 where its word finds no next state
abbrev pub pair_after : List ℕ → List ℕ → List ℕ → ℕ → ℕ → ℕ
pair_after word next power x d =
    if eqb (state_after word power x d) none then 2048
    else get_or next (x / 16 * 16 + d) 0 * 16 + state_after word power x d

-- the word of datum d finds its way from the pair at x
abbrev pub finds_at : List ℕ → List ℕ → ℕ → ℕ → Bool
finds_at word power x d = not (eqb (state_after word power x d) none)

-- how many places are not in the set
abbrev pub absent : List Bool → ℕ
absent S = tot (one not) S

-- the members of S stand in L below m, each once
pub record Queue (S : List Bool) (L : List ℕ) (m : ℕ) : Type 0 where
  pub long : length S ≡ 2048
  pub room : length L ≡ 2048
  pub count : m + absent S ≡ 2048
  pub listed : (j : ℕ) → j < m → T (member S (get_or L j 0))
  pub every : (x : ℕ) → T (member S x) → (j : ℕ) × (j < m) × (get_or L j 0 ≡ x)

-- S, L and m have grown to S', L' and m' by those of the places g 0 to g (i - 1) that are below 2,048
pub record Grown (g : ℕ → ℕ) (i : ℕ) (S : List Bool) (L : List ℕ) (m : ℕ) (S' : List Bool) (L' : List ℕ) (m' : ℕ)
    : Type 0 where
  pub queue : Queue S' L' m'
  pub longer : m ≤ m'
  pub kept : (j : ℕ) → j < m → get_or L' j 0 ≡ get_or L j 0
  pub holds : (x : ℕ) → T (member S x) → T (member S' x)
  pub added : (d : ℕ) → d < i → g d < 2048 → T (member S' (g d))
  pub only : (x : ℕ) → T (member S' x) → T (member S x) ⊎ ((d : ℕ) × (d < i) × (g d ≡ x))
