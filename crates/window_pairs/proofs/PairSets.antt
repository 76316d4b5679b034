-- Sets of pairs in an array: what they hold.
-- In order: has-pairs, pairs-grid.
-- Assumes nothing.
use Rattle.std.proofs.Common.{◌≡◌, ◌<◌}
use Rattle.laws.proofs.All.{Bool, List, ℕ, has, grid}
use Rattle.table.proofs.EqualGrids.{grid-same, has-grid}
use Rattle.bitsets.specs.declared.BitSet.{BitSet}
use Rattle.bitsets.specs.BitSets.{holds, set_at}
use Rattle.window_pairs.specs.PairSets.{pairs_in}

-- the array holds a pair where the set of its first state holds the second
pub has-pairs : (n : ℕ) (A : List BitSet) (x y : ℕ) → x < n → y < n → has (pairs_in n A) x y ≡ holds (set_at A x) y
unfolding pairs_in
has-pairs n A x y h l = has-grid n n (λ x y. holds (set_at A x) y) x y h l

-- an array whose sets pass the test f holds the pairs that pass it
pub pairs-grid : (n : ℕ) (A : List BitSet) (f : ℕ → ℕ → Bool)
    → ((x y : ℕ) → x < n → y < n → holds (set_at A x) y ≡ f x y) → pairs_in n A ≡ grid n n f
unfolding pairs_in
pairs-grid n A f h = grid-same n n (λ x y. holds (set_at A x) y) f h
