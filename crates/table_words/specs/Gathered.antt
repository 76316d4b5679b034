-- For one word the set of states that have it, and for each of these the set of states to which its edges lead.
-- In order: carries, leaves; beside_from, beside_to, edges with one word, one datum left out; led; Gathered; holds_in.
-- Assumes nothing.
use Rattle.std.specs.Prelude.{◌≡◌, Bool, false, Option, Some, None, not, ◌&&◌, List, ℕ, ◌/◌, ◌%◌, ◌<◌, eqb, length}
use Rattle.table.specs.Marks.{some}
use Rattle.table.specs.Edges.{Arrays, places, next_of, bears}
use Rattle.bitsets.specs.declared.BitSet.{BitSet}
use Rattle.bitsets.specs.BitSets.{holds, set_at}

-- the edge e carries the datum k; where there is none, no edge does
abbrev pub carries : Option ℕ → ℕ → Bool
carries None e = false
carries (Some k) e = eqb (e % 16) k

-- the edge e is one of the state s and does not carry the datum k
abbrev pub leaves : Option ℕ → ℕ → ℕ → Bool
leaves k s e = not (carries k e) && eqb (e / 16) s

-- such an edge has the word w
abbrev pub beside_from : Arrays → ℕ → Option ℕ → ℕ → ℕ → Bool
beside_from t w k s e = bears t w e && leaves k s e

-- such an edge has the word w and leads to u
abbrev pub beside_to : Arrays → ℕ → Option ℕ → ℕ → ℕ → ℕ → Bool
beside_to t w k s u e = bears t w e && (leaves k s e && eqb (next_of t e) u)

-- s is in `have`, and set s of the array holds u
abbrev pub led : BitSet → List BitSet → ℕ → ℕ → Bool
led have targets s u = holds have s && holds (set_at targets s) u

-- `have` is the set of states that have the word w on an edge that does not carry k, and for each of them its set of
-- `targets` is the set of states to which such edges lead
pub record Gathered (t : Arrays) (w : ℕ) (k : Option ℕ) (have : BitSet) (targets : List BitSet) : Type 0 where
  pub long : length targets ≡ 128
  pub haves : (s : ℕ) → s < 128 → holds have s ≡ some (beside_from t w k s) (places t)
  pub leads : (s u : ℕ) → s < 128 → led have targets s u ≡ some (beside_to t w k s u) (places t)

-- set s of an array of sets holds u
abbrev pub holds_in : List BitSet → ℕ → ℕ → Bool
holds_in A u s = holds (set_at A s) u
