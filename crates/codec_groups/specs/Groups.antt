-- The edges of a table by word as sets: for each word its groups, one for each state that has it, in rising order.
-- In order: goes_to; has_at, first_edge; targets_at, source_at, a group; Within, a group of a word; have_at, Sources,
-- the states that have a word; Grouped, a table with all its groups; Put, PutAll, PutHave, one group written, those of
-- one word, and the states that have it; between; steps_to, leads_into, one group in a step forward and back; group_of,
-- member_to, the group of a state.
-- Assumes nothing.
use Rattle.std.specs.Prelude.{◌≡◌, Bool, true, false, ◌&&◌, List, ℕ, ◌+◌, ◌-◌, ◌*◌, ◌/◌, ◌≤◌, ◌<◌, eqb, length, get_or}
use Rattle.laws.specs.Lists.{from, range, filter, any, first}
use Rattle.table.specs.Marks.{some}
use Rattle.table.specs.Edges.{Arrays, places, Fits, next_of, bears}
use Rattle.bitsets.specs.declared.BitSet.{BitSet}
use Rattle.bitsets.specs.BitSets.{holds, members_of, meeting, set_of, set_at}

-- e is an edge of the state s with the word w, and leads to u
abbrev pub goes_to : Arrays → ℕ → ℕ → ℕ → ℕ → Bool
goes_to t w s u e = bears t w e && (eqb (e / 16) s && eqb (next_of t e) u)

-- the entry at place e has the word w
abbrev pub has_at : List ℕ → ℕ → ℕ → Bool
has_at word w e = eqb (get_or word e 0) w

-- the first of the n entries of the state s with the word w, or the place after them
unfoldable pub first_edge : ℕ → List ℕ → ℕ → ℕ → ℕ
first_edge n word w s = first (has_at word w) (s * 16 + n) (from (s * 16) n)

-- the states to which the edges of group k lead
abbrev pub targets_at : List BitSet → ℕ → BitSet
targets_at sets k = get_or sets k (set_of 0 0)

-- the state of group k: that of its first edge
abbrev pub source_at : List ℕ → ℕ → ℕ
source_at first k = get_or first k 0 / 16

-- group k is one of the word w
abbrev pub Within : List ℕ → ℕ → ℕ → Type 0
Within start w k = (w < 256) × (get_or start w 0 ≤ k) × (k < get_or start (w + 1) 0)

-- the states that have the word w: a set after those of the groups
abbrev pub have_at : List BitSet → ℕ → BitSet
have_at sets w = targets_at sets (2048 + w)

-- the members of S are in order the states of the groups from `at` on and below `end`
abbrev pub Sources : List ℕ → ℕ → ℕ → BitSet → Type 0
Sources first at end S =
    (at + length (members_of S) ≡ end)
    × ((j : ℕ) → j < length (members_of S) → source_at first (at + j) ≡ get_or (members_of S) j 0)

-- a table that fits, with its groups: for each word those of the states that have it, in rising order; `first` has the
-- first edge of each, `sets` the set of its targets and, where it is long enough, the set of the states that have a word
pub record Grouped (t : Arrays) (start first : List ℕ) (sets : List BitSet) : Type 0 where
  pub fits : Fits t
  pub room : (w : ℕ) → w < 256 → (get_or start (w + 1) 0 ≤ 2048) × (get_or start (w + 1) 0 ≤ length sets)
  pub below : (w k : ℕ) → Within start w k → get_or first k 0 < places t
  pub edge : (w k : ℕ) → Within start w k → bears t w (get_or first k 0) ≡ true
  pub least : (w k e : ℕ) → Within start w k → e / 16 ≡ source_at first k → e < get_or first k 0 → bears t w e ≡ false
  pub rising : (w k l : ℕ) → Within start w k → Within start w l → k < l → source_at first k < source_at first l
  pub whole : (w e : ℕ) → w < 256 → e < places t → bears t w e ≡ true
      → (k : ℕ) × Within start w k × (source_at first k ≡ e / 16)
  pub targets : (w k u : ℕ) → Within start w k
      → holds (targets_at sets k) u ≡ some (goes_to t w (source_at first k) u) (places t)
  pub sources : (w k : ℕ) → Within start w k → 2304 ≤ length sets
      → Sources first (get_or start w 0) (get_or start (w + 1) 0) (have_at sets w)

-- two arrays with e as first edge of group k and s as its targets, and otherwise as they were
pub record Put (first : List ℕ) (sets : List BitSet) (k e : ℕ) (s : BitSet) (f : List ℕ) (l : List BitSet) : Type 0 where
  pub first_long : length f ≡ length first
  pub sets_long : length l ≡ length sets
  pub edge : get_or f k 0 ≡ e
  pub targets : targets_at l k ≡ s
  pub edges : (j : ℕ) → (j ≡ k → ⊥) → get_or f j 0 ≡ get_or first j 0
  pub others : (j : ℕ) → (j ≡ k → ⊥) → targets_at l j ≡ targets_at sets j

-- two arrays with, from group `at` on, a group for each state of the list, its first edge by `edge_of` and its
-- targets by `gathered`; the groups below `at` and the sets after those of all groups as they were
pub record PutAll (first : List ℕ) (sets : List BitSet) (at : ℕ) (states : List ℕ) (edge_of : ℕ → ℕ)
    (gathered : List BitSet) (f : List ℕ) (l : List BitSet) : Type 0 where
  pub first_long : length f ≡ 2048
  pub sets_long : length l ≡ length sets
  pub edge : (j : ℕ) → j < length states → get_or f (at + j) 0 ≡ edge_of (get_or states j 0)
  pub targets : (j : ℕ) → j < length states → targets_at l (at + j) ≡ set_at gathered (get_or states j 0)
  pub edges : (j : ℕ) → j < at → get_or f j 0 ≡ get_or first j 0
  pub others : (j : ℕ) → j < at → targets_at l j ≡ targets_at sets j
  pub after : (j : ℕ) → 2048 ≤ j → targets_at l j ≡ targets_at sets j

-- an array with S as the states that have the word w, where it is long enough for it, and otherwise as it was
pub record PutHave (sets : List BitSet) (w : ℕ) (S : BitSet) (l : List BitSet) : Type 0 where
  pub sets_long : length l ≡ length sets
  pub here : 2304 ≤ length sets → have_at l w ≡ S
  pub others : (j : ℕ) → (j ≡ 2048 + w → ⊥) → targets_at l j ≡ targets_at sets j

-- some number from i on and below j passes
unfoldable pub between : (ℕ → Bool) → ℕ → ℕ → Bool
between f i j = any f (from i (j - i))

-- group k leads from a state of S to u
abbrev pub steps_to : List ℕ → List BitSet → BitSet → ℕ → ℕ → Bool
steps_to first sets S u k = holds S (source_at first k) && holds (targets_at sets k) u

-- group k leads from the state s into S
abbrev pub leads_into : List ℕ → List BitSet → BitSet → ℕ → ℕ → Bool
leads_into first sets S s k = meeting 128 (targets_at sets k) S && eqb (source_at first k) s

-- the group of the state s, where those of the states of S stand from `at` on
unfoldable pub group_of : ℕ → BitSet → ℕ → ℕ
group_of at S s = at + length (filter (holds S) (range s))

-- the group of the state s leads to u
abbrev pub member_to : List BitSet → ℕ → BitSet → ℕ → ℕ → Bool
member_to sets at S u s = holds (targets_at sets (group_of at S s)) u
