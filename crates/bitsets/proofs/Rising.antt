-- The places of the set bits of a number stand in rising order, and each of them stands in the list.
-- In order: places-rising, places-find, places-hold.
-- Assumes nothing.
use Rattle.std.proofs.Common.{◌≡◌, ◌∷◌, ◌≤◌, ◌<◌, if◌then◌else◌}
use Rattle.laws.proofs.All.{Bool, true, false, ℕ, zero, suc, le_refl, le_of_suc-le-suc}
use Rattle.laws.proofs.All.{not-suc-le-zero, arith, T, length, get_or, from, range, filter, index_of}
use Rattle.laws.proofs.All.{elem-range, →elem-filter, index-lt, at-index, each_at}
use Rattle.bitsets.specs.BitSets.{bit_at, places_of}
use Rattle.bitsets.proofs.Places.{In, places-each}

-- ---- the numbers from i on that pass
module _ (p : ℕ → Bool) where
  filter-least : (i d j : ℕ) → j < length (filter p (from i d)) → i ≤ get_or (filter p (from i d)) j 0
  filter-least i zero j h = absurd (not-suc-le-zero h)
  filter-least i (suc d) j h = go (p i) j h (filter-least (suc i) d)
    where
      go : (b : Bool) (j : ℕ) → let F = filter p (from (suc i) d) in j < length (if b then i ∷ F else F)
          → ((k : ℕ) → k < length F → suc i ≤ get_or F k 0) → i ≤ get_or (if b then i ∷ F else F) j 0
      go true zero h ih = le_refl i
      go true (suc j) h ih = omega (arith, ih j (le_of_suc-le-suc h))
      go false j h ih = omega (arith, ih j h)

  filter-rising : (i d j k : ℕ) → j < k → k < length (filter p (from i d))
      → get_or (filter p (from i d)) j 0 < get_or (filter p (from i d)) k 0
  filter-rising i zero j k l h = absurd (not-suc-le-zero h)
  filter-rising i (suc d) j k l h = go (p i) j k l h (filter-least (suc i) d) (filter-rising (suc i) d)
    where
      go : (b : Bool) (j k : ℕ) → let F = filter p (from (suc i) d) in j < k → k < length (if b then i ∷ F else F)
          → ((k : ℕ) → k < length F → suc i ≤ get_or F k 0)
          → ((j k : ℕ) → j < k → k < length F → get_or F j 0 < get_or F k 0)
          → get_or (if b then i ∷ F else F) j 0 < get_or (if b then i ∷ F else F) k 0
      go true j zero l h low ih = absurd (not-suc-le-zero l)
      go true zero (suc k) l h low ih = low k (le_of_suc-le-suc h)
      go true (suc j) (suc k) l h low ih = ih j k (le_of_suc-le-suc l) (le_of_suc-le-suc h)
      go false j k l h low ih = ih j k l h

-- ---- the places
pub places-rising : (d n i j : ℕ) → i < j → j < length (places_of d n)
    → get_or (places_of d n) i 0 < get_or (places_of d n) j 0
unfolding places_of
places-rising d n i j = filter-rising (bit_at n) 0 d i j

pub places-find : (d n x : ℕ) → x < d → T (bit_at n x)
    → (j : ℕ) × (j < length (places_of d n)) × (get_or (places_of d n) j 0 ≡ x)
unfolding places_of
places-find d n x h t =
    let l = filter (bit_at n) (range d) in
    let e = →elem-filter (bit_at n) x (range d) (elem-range d x h) t in
    (index_of x l, index-lt x l e, at-index x l e)

pub places-hold : (d n j : ℕ) → j < length (places_of d n) → In d n (get_or (places_of d n) j 0)
places-hold d n j h = each_at (In d n) 0 (places_of d n) (places-each d n) j h
