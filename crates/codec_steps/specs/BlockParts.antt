-- Parts of the reading of one block, as the code takes them.
-- In order: joins_at, first_group, one group between two sets; into_at, first_member, the group of a member; enters_at,
-- first_into, one edge into a set; holds_from; no_place; under, the code with a table and a window.
-- Assumes nothing.
use Rattle.std.specs.Prelude.{Bool, ◌&&◌, List, [], map, ℕ, ◌+◌, ◌-◌, eqb, get_or}
use Rattle.laws.specs.Lists.{from, first}
use Rattle.table.specs.Rows.{Rows, Code}
use Rattle.bitsets.specs.declared.BitSet.{BitSet}
use Rattle.bitsets.specs.BitSets.{holds, members_of, meeting}
use Rattle.codec_groups.specs.Groups.{targets_at, source_at, group_of}

-- what stands where none is found: more than the place of any edge or group
abbrev pub no_place : ℕ
no_place = 2048

-- group k leads from a state of P into A
abbrev pub joins_at : List ℕ → List BitSet → BitSet → BitSet → ℕ → Bool
joins_at edge sets P A k = holds P (source_at edge k) && meeting 128 (targets_at sets k) A

-- the first group of the word w that leads from a state of P into A
unfoldable pub first_group : List ℕ → List ℕ → List BitSet → BitSet → ℕ → BitSet → ℕ
first_group start edge sets P w A =
    first (joins_at edge sets P A) no_place (from (get_or start w 0) (get_or start (w + 1) 0 - get_or start w 0))

-- group k leads into A
abbrev pub into_at : List BitSet → BitSet → ℕ → Bool
into_at sets A k = meeting 128 (targets_at sets k) A

-- the first group that leads into A, of those of the members of B, where the groups of the states of H stand from `at`
-- on
unfoldable pub first_member : List BitSet → ℕ → BitSet → BitSet → BitSet → ℕ
first_member sets at H B A = first (into_at sets A) no_place (map (group_of at H) (members_of B))

-- the entry at place e has the word w and leads into A
abbrev pub enters_at : List ℕ → List ℕ → ℕ → BitSet → ℕ → Bool
enters_at word next w A e = eqb (get_or word e 0) w && holds A (get_or next e 0)

-- the first entry with the word w that leads into A, of those from place e on and below `end`
unfoldable pub first_into : List ℕ → List ℕ → ℕ → BitSet → ℕ → ℕ → ℕ
first_into word next w A e end = first (enters_at word next w A) no_place (from e (end - e))

-- the state of group k is in P
abbrev pub holds_from : List ℕ → BitSet → ℕ → Bool
holds_from edge P k = holds P (source_at edge k)

-- a code with this table, memory and lookahead; nothing else counts for reading a block
abbrev pub under : Rows → ℕ → ℕ → Code
under t m a = record {
  p = 0;
  q = 0;
  window = record { memory = m; lookahead = a };
  constraint = [];
  start = 0;
  tail = 0;
  table = t;
}
