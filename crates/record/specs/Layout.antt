-- "The packed record": its fields as two lists, widths and values; a record written, and the code of fields that are
-- read.
-- In order: header, head_of, front_values; header_fields, header_bits, header_bytes, state_size; bit_count, size, fill,
-- widths; present, shown, nexts, pairs, rows, values, pack; opened, nexts_of, edges_of, rows_of, code_of.
-- Assumes nothing.
use Rattle.std.specs.Prelude.{if◌then◌else◌, List, [], ◌∷◌, ◌++◌, ℕ, zero, suc, ◌+◌, ◌*◌, ◌-◌, ◌/◌, ◌^◌, eqb, length}
use Rattle.std.specs.Prelude.{get_or, drop}
use Rattle.std.specs.Prelude.{replicate}
use Rattle.laws.specs.Lists.{sum, repeat}
use Rattle.bits.specs.Fields.{write, read}
use Rattle.constraint.specs.Walking.{Constraint, none}
use Rattle.table.specs.Rows.{Edge, edge, Rows, Code}
use Rattle.table.specs.declared.Head.{Head}
use Rattle.table.specs.Formed.{head}

-- "p 3 bits, q 4, states less one 7, m 4, a 4, K less one 4, constraint start 4", and the tail datum: "4 bits straight
-- after the constraint start"
abbrev pub header : List ℕ
header = 3 ∷ 4 ∷ 7 ∷ 4 ∷ 4 ∷ 4 ∷ 4 ∷ 4 ∷ []

-- the numbers in front, from the fields
abbrev pub head_of : List ℕ → Head
head_of vs = record {
  p = get_or vs 0 0;
  q = get_or vs 1 0;
  states = get_or vs 2 0 + 1;
  memory = get_or vs 3 0;
  lookahead = get_or vs 4 0;
  count = get_or vs 5 0 + 1;
  start = get_or vs 6 0;
  tail = get_or vs 7 0;
}

-- the fields, from the numbers in front
abbrev pub front_values : Head → List ℕ
front_values h =
    h.p ∷ h.q ∷ (h.states - 1) ∷ h.memory ∷ h.lookahead ∷ (h.count - 1) ∷ h.start ∷ h.tail ∷ []

-- how many fields are in front
abbrev pub header_fields : ℕ
header_fields = length header

-- how many bits they have
abbrev pub header_bits : ℕ
header_bits = sum header

-- how many bytes hold them: "The header now needs five bytes"
abbrev pub header_bytes : ℕ
header_bytes = 5

-- the bits of a constraint state: twice "present 1, next state 4"
abbrev pub state_size : ℕ
state_size = 10

-- how many bits the fields have, q + 7 an edge
abbrev pub bit_count : Head → ℕ
bit_count h = header_bits + state_size * h.count + h.states * (2 ^ h.p * (h.q + 7))

-- the record's length in bytes
abbrev pub size : Head → ℕ
size h = (bit_count h + 7) / 8

-- "Zero bits fill the last byte": how many
abbrev pub fill : Head → ℕ
fill h = 8 * size h - bit_count h

-- the widths of all fields, the fill as a last one: "for each constraint state and bit 0, then 1: present 1, next
-- state 4; for each table state and datum: word q, next table state 7"
abbrev pub widths : Head → List ℕ
widths h =
    header ++ (repeat h.count (1 ∷ 4 ∷ 1 ∷ 4 ∷ [])
    ++ (repeat h.states (repeat (2 ^ h.p) (h.q ∷ 7 ∷ [])) ++ (fill h ∷ [])))

-- the field "present 1"
abbrev pub present : ℕ → ℕ
present s = if eqb s none then 0 else 1

-- the field "next state 4 (0 if absent)"
abbrev pub shown : ℕ → ℕ
shown s = if eqb s none then 0 else s

-- the fields of the constraint: "All K constraint states are stored, those of weight 0 included"
abbrev pub nexts : Constraint → List ℕ
nexts [] = []
nexts (r ∷ rs) = present r.zero ∷ shown r.zero ∷ present r.one ∷ shown r.one ∷ nexts rs

-- the fields of a table state's edges
abbrev pub pairs : List Edge → List ℕ
pairs [] = []
pairs (e ∷ es) = e.word ∷ e.next ∷ pairs es

-- the fields of the table
abbrev pub rows : Rows → List ℕ
rows [] = []
rows (es ∷ t) = pairs es ++ rows t

-- the values of all fields, the fill last
abbrev pub values : Code → List ℕ
values c = front_values (head c) ++ (nexts c.constraint ++ (rows c.table ++ (0 ∷ [])))

-- the record of a code: its fields' bits, read as bytes
unfoldable pub pack : Code → List ℕ
pack c = read (replicate (size (head c)) 8) (write (widths (head c)) (values c))

-- the next state that the fields "present" and "next state" name
abbrev pub opened : ℕ → ℕ → ℕ
opened b s = if eqb b 0 then none else s

-- the constraint of k states that fields name
abbrev pub nexts_of : ℕ → List ℕ → Constraint
nexts_of zero vs = []
nexts_of (suc k) vs =
    record { zero = opened (get_or vs 0 0) (get_or vs 1 0); one = opened (get_or vs 2 0) (get_or vs 3 0) }
    ∷ nexts_of k (drop 4 vs)

-- the n edges that fields name
abbrev pub edges_of : ℕ → List ℕ → List Edge
edges_of zero vs = []
edges_of (suc n) vs = edge (get_or vs 0 0) (get_or vs 1 0) ∷ edges_of n (drop 2 vs)

-- the table of s states with n edges each that fields name
abbrev pub rows_of : ℕ → ℕ → List ℕ → Rows
rows_of zero n vs = []
rows_of (suc s) n vs = edges_of n vs ∷ rows_of s n (drop (n * 2) vs)

-- the code that fields name
abbrev pub code_of : Head → List ℕ → Code
code_of h vs = record {
  p = h.p;
  q = h.q;
  window = record { memory = h.memory; lookahead = h.lookahead };
  constraint = nexts_of h.count (drop header_fields vs);
  start = h.start;
  tail = h.tail;
  table = rows_of h.states (2 ^ h.p) (drop (h.count * 4) (drop header_fields vs));
}
