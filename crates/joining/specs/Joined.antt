-- Two constraints on one medium: "a bit is allowed when both constraints allow it. The joined states are the pairs
-- reachable from both states 0, numbered as first met, walking pairs in number order, bit 0 before bit 1."
-- In order: pair_of; allowed, leads_to, one bit from a pair; adjoin, met; walked, walked_from, pairs; next_pair,
-- joined_state, joined; Reachable, what the pairs mean; MeetsAt, FirstMet, what their numbers mean.
-- Assumes nothing.
use Rattle.std.specs.Prelude.{if◌then◌else◌, ◌≡◌, Bool, not, ◌&&◌, List, [], ◌∷◌, ◌++◌, map, ℕ, zero, suc, ◌+◌, ◌*◌}
use Rattle.std.specs.Prelude.{◌/◌, ◌%◌, ◌<◌, T, ltb, eqb, length, get_or}
use Rattle.laws.specs.Lists.{elem, index_of}
use Rattle.constraint.specs.Walking.{none, NextStates, Constraint, after}
use Rattle.constraint.specs.Follow.{follow, Finds}

-- a pair of states as one number: both are below 16
abbrev pub pair_of : ℕ → ℕ → ℕ
pair_of x y = x * 16 + y

-- "a bit is allowed when both constraints allow it": bit b from the pair z
abbrev pub allowed : Constraint → Constraint → ℕ → ℕ → Bool
allowed c d b z = not (eqb (after c (z / 16) b) none) && not (eqb (after d (z % 16) b) none)

-- the pair to which bit b leads from the pair z
abbrev pub leads_to : Constraint → Constraint → ℕ → ℕ → ℕ
leads_to c d b z = pair_of (after c (z / 16) b) (after d (z % 16) b)

-- "numbered as first met": a pair that is not in the list yet comes last
abbrev pub adjoin : ℕ → List ℕ → List ℕ
adjoin z ps = if elem z ps then ps else ps ++ z ∷ []

-- the list after bit b from the pair z
abbrev pub met : Constraint → Constraint → ℕ → ℕ → List ℕ → List ℕ
met c d b z ps = if allowed c d b z then adjoin (leads_to c d b z) ps else ps

-- the list after pair number i is walked, "bit 0 before bit 1"
abbrev pub walked : Constraint → Constraint → ℕ → List ℕ → List ℕ
walked c d i ps = let z = get_or ps i 0 in if ltb i (length ps) then met c d 1 z (met c d 0 z ps) else ps

-- "walking pairs in number order": the list after k pairs are walked from number i on
abbrev pub walked_from : Constraint → Constraint → ℕ → ℕ → List ℕ → List ℕ
walked_from c d zero i ps = ps
walked_from c d (suc k) i ps = walked_from c d k (suc i) (walked c d i ps)

-- the pairs reachable from both states 0, by their numbers; more than 16 are declined, so 16 walks are enough
unfoldable pub pairs : Constraint → Constraint → List ℕ
pairs c d = walked_from c d 16 0 (pair_of 0 0 ∷ [])

-- the number of the pair to which bit b leads from the pair z
abbrev pub next_pair : Constraint → Constraint → List ℕ → ℕ → ℕ → ℕ
next_pair c d ps b z = if allowed c d b z then index_of (leads_to c d b z) ps else none

-- the next states of the pair z
abbrev pub joined_state : Constraint → Constraint → List ℕ → ℕ → NextStates
joined_state c d ps z = record { zero = next_pair c d ps 0 z; one = next_pair c d ps 1 z }

-- both constraints as one, whose states are the pairs
unfoldable pub joined : Constraint → Constraint → Constraint
joined c d = map (joined_state c d (pairs c d)) (pairs c d)

-- "reachable from both states 0": some bits that both constraints allow lead to x and to y
pub record Reachable (c d : Constraint) (x y : ℕ) : Type 0 where
  pub bits : List ℕ
  pub first : Finds c 0 bits
  pub second : Finds d 0 bits
  pub x-is : follow c 0 bits ≡ x
  pub y-is : follow d 0 bits ≡ y

-- "walking pairs in number order, bit 0 before bit 1": bit b of pair number i is place 2 i + b of the walk; at place k
-- the pair z is met
pub record MeetsAt (c d : Constraint) (ps : List ℕ) (k z : ℕ) : Type 0 where
  pub number : ℕ
  pub bit : ℕ
  pub place : k ≡ 2 * number + bit
  pub small : bit < 2
  pub there : number < length ps
  pub allows : T (allowed c d bit (get_or ps number 0))
  pub leads : leads_to c d bit (get_or ps number 0) ≡ z

-- "first met": at place k the pair z is met, and at no place before
pub record FirstMet (c d : Constraint) (ps : List ℕ) (k z : ℕ) : Type 0 where
  pub here : MeetsAt c d ps k z
  pub earlier : (l : ℕ) → l < k → MeetsAt c d ps l z → ⊥
