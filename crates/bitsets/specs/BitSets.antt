-- Sets of states in two machine words, one bit for each of 128 states, and the lists that they stand for.
-- In order: bit_at, places_of, the bits of a number; value_of; holds, members_of, yes_no, meeting; set_of; set_at, a set
-- of an array.
-- Assumes nothing.
use Rattle.std.specs.Prelude.{Bool, ◌&&◌, List, map, ℕ, ◌+◌, ◌*◌, ◌/◌, ◌%◌, ◌^◌, eqb, slice_index_or}
use Rattle.laws.specs.Lists.{range, filter, any}
use Rattle.bitsets.specs.declared.BitSet.{BitSet}

-- the bit i of n is set
abbrev pub bit_at : ℕ → ℕ → Bool
bit_at n i = eqb (n / 2 ^ i % 2) 1

-- the places of the bits that are set among the d lowest of n, rising
unfoldable pub places_of : ℕ → ℕ → List ℕ
places_of d n = filter (bit_at n) (range d)

-- the number whose bit i says whether the state i is in the set
abbrev pub value_of : BitSet → ℕ
value_of s = s.high * 2 ^ 64 + s.low

-- the state i is in the set
abbrev pub holds : BitSet → ℕ → Bool
holds s = bit_at (value_of s)

-- the states of the set, rising
abbrev pub members_of : BitSet → List ℕ
members_of s = places_of 128 (value_of s)

-- the first n states as a list of yes and no
unfoldable pub yes_no : ℕ → BitSet → List Bool
yes_no n s = map (holds s) (range n)

-- some state below d is in both sets
unfoldable pub meeting : ℕ → BitSet → BitSet → Bool
meeting d r s = any (λ i. holds r i && holds s i) (range d)

-- a set by its two words
abbrev pub set_of : ℕ → ℕ → BitSet
set_of l h = record { low = l; high = h }

-- set k of an array of sets
abbrev pub set_at : List BitSet → ℕ → BitSet
set_at A k = slice_index_or A k (set_of 0 0)
