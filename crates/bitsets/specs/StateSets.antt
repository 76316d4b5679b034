-- A set in two machine words is the list of yes and no that it stands for: members, lowest, emptiness, joining.
-- In order: Words, joined; yeses, first_yes, some_yes, either, of lists of yes and no; StateSets.
-- Assumes nothing.
use Rattle.std.specs.Prelude.{if◌then◌else◌, ◌≡◌, Bool, not, ◌&&◌, ◌||◌, List, [], ◌∷◌, ℕ, suc, ◌+◌, ◌^◌, ◌<◌, eqb}
use Rattle.std.specs.Int.Bits.{bit_or}
use Rattle.std.specs.Int.Count.{ones, count_trailing_zeros}
use Rattle.laws.specs.Lists.{any}
use Rattle.bitsets.specs.declared.BitSet.{BitSet}
use Rattle.bitsets.specs.BitSets.{yes_no, set_of}

-- the fields are machine words
abbrev pub Words : BitSet → Type 0
Words s = (s.low < 2 ^ 64) × (s.high < 2 ^ 64)

-- the set of the states in either set, word by word
abbrev pub joined : BitSet → BitSet → BitSet
joined r s = set_of (bit_or r.low s.low) (bit_or r.high s.high)

-- how many places of the list say yes
abbrev pub yeses : List Bool → ℕ
yeses [] = 0
yeses (b ∷ bs) = let n = yeses bs in if b then suc n else n

-- the first place that says yes, or the list's length where none does
abbrev pub first_yes : List Bool → ℕ
first_yes [] = 0
first_yes (b ∷ bs) = let n = suc (first_yes bs) in if b then 0 else n

-- some place says yes
abbrev pub some_yes : List Bool → Bool
some_yes = any (λ b. b)

-- yes at the places where one of the two lists says yes
abbrev pub either : List Bool → List Bool → List Bool
either [] bs = []
either (a ∷ l) [] = []
either (a ∷ l) (b ∷ bs) = (a || b) ∷ either l bs

-- "the number of members, the lowest member and emptiness come from the bits. Prove the new form equal to a list of yes
-- and no, one a state, for these three, for joining"
pub record StateSets : Type 0 where
  pub number : (s : BitSet) → Words s → ones s.low + ones s.high ≡ yeses (yes_no 128 s)
  pub lowest : (s : BitSet) → Words s
      → (if eqb s.low 0 then 64 + count_trailing_zeros 64 s.high else count_trailing_zeros 64 s.low)
      ≡ first_yes (yes_no 128 s)
  pub empty : (s : BitSet) → Words s → (eqb s.low 0 && eqb s.high 0) ≡ not (some_yes (yes_no 128 s))
  pub joining : (r s : BitSet) → Words r → Words s
      → yes_no 128 (joined r s) ≡ either (yes_no 128 r) (yes_no 128 s)
