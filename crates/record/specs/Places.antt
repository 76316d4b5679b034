-- Where each field stands among the bits bs of a record, as the code finds it.
-- In order: Small, numbers in front; next_in, state_in, the constraint; good_at, its fields; edges_place, target_at,
-- good_target_at, the edges; spot, an edge's place in a table's arrays; Column, an array of one field of every edge;
-- Reach, its limits.
-- Assumes nothing.
use Rattle.std.specs.Prelude.{Bool, ◌≡◌, List, ℕ, ◌+◌, ◌*◌, ◌/◌, ◌%◌, ◌≤◌, ◌<◌, ltb, length, get_or}
use Rattle.bits.specs.Fields.{field}
use Rattle.constraint.specs.Walking.{NextStates}
use Rattle.table.specs.declared.Head.{Head}
use Rattle.record.specs.Layout.{header_bits, state_size, opened}
use Rattle.record.specs.Parse.{good_field}

-- numbers in front that fit a table's arrays
pub record Small (h : Head) : Type 0 where
  pub p₂ : h.p ≤ 4
  pub q₂ : h.q ≤ 8
  pub s₂ : h.states ≤ 128
  pub k₂ : h.count ≤ 16

-- the next state whose fields "present" and "next state" stand at the place o
abbrev pub next_in : List ℕ → ℕ → ℕ
next_in bs o = opened (field bs o 1) (field bs (o + 1) 4)

-- the next states of constraint state s
abbrev pub state_in : List ℕ → ℕ → NextStates
state_in bs s = record {
  zero = next_in bs (header_bits + s * state_size);
  one = next_in bs (header_bits + 5 + s * state_size);
}

-- the i-th next state, two a constraint state of K, is in range
abbrev pub good_at : List ℕ → ℕ → ℕ → Bool
good_at bs K i = good_field K (field bs (header_bits + i * 5) 1) (field bs (header_bits + i * 5 + 1) 4)

-- the place of the first edge
abbrev pub edges_place : Head → ℕ
edges_place h = header_bits + h.count * state_size

-- the e-th of the next states that stand d bits apart, the first at the place o, is one of n states
abbrev pub target_at : List ℕ → ℕ → ℕ → ℕ → ℕ → Bool
target_at bs o d n e = ltb (field bs (o + e * d) 7) n

-- the e-th edge, of those of all states, leads to a state
abbrev pub good_target_at : List ℕ → Head → ℕ → Bool
good_target_at bs h = target_at bs (edges_place h + h.q) (h.q + 7) h.states

-- where the e-th edge, n a state, stands in a table's arrays
abbrev pub spot : ℕ → ℕ → ℕ
spot n e = e / n * 16 + e % n

-- the array holds the fields of w bits, one for each of k edges, the first at the place o and the others d bits apart
pub record Column (bs : List ℕ) (n k o d w : ℕ) (a : List ℕ) : Type 0 where
  pub whole : length a ≡ 2048
  pub filled : (e : ℕ) → e < k → get_or a (spot n e) 0 ≡ field bs (o + e * d) w

-- k edges, n a state, that fit a table's arrays, with fields of w bits that end within l bits
pub record Reach (l n k o d w : ℕ) : Type 0 where
  pub some : 1 ≤ n
  pub few : n ≤ 16
  pub states : k ≤ 128 * n
  pub width : w ≤ 8
  pub apart : d ≤ 15
  pub first : o ≤ 256
  pub last : o + k * d + w ≤ l + d
