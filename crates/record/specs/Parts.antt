-- The bits of a record, part by part, as they are written one after the other.
-- In order: front_bits, the numbers in front; next_bits, state_bits, the constraint; edge_bits,
-- the edges; states_bits, rows_bits, of all.
-- Assumes nothing.
use Rattle.std.specs.Prelude.{List, ◌++◌, map, ℕ}
use Rattle.laws.specs.Lists.{concat}
use Rattle.bits.specs.Fields.{bits, write}
use Rattle.constraint.specs.Walking.{NextStates, Constraint}
use Rattle.table.specs.Rows.{Edge, Rows}
use Rattle.table.specs.declared.Head.{Head}
use Rattle.record.specs.Layout.{header, front_values, present, shown}

-- the bits of the numbers in front
unfoldable pub front_bits : Head → List ℕ
front_bits h = write header (front_values h)

-- "present 1, next state 4 (0 if absent)"
unfoldable pub next_bits : ℕ → List ℕ
next_bits s = bits 1 (present s) ++ bits 4 (shown s)

-- the bits of a constraint state: "bit 0, then 1"
unfoldable pub state_bits : NextStates → List ℕ
state_bits r = next_bits r.zero ++ next_bits r.one

-- the bits of an edge: "word q, next table state 7"
unfoldable pub edge_bits : ℕ → Edge → List ℕ
edge_bits q e = bits q e.word ++ bits 7 e.next

-- the bits of all constraint states
unfoldable pub states_bits : Constraint → List ℕ
states_bits c = concat (map state_bits c)

-- the bits of all edges
unfoldable pub rows_bits : ℕ → Rows → List ℕ
rows_bits q t = concat (map (edge_bits q) (concat t))
