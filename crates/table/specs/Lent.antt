-- The edges that the struct `Edges` lends.
-- In order: edges_in.
-- Assumes nothing.
use Rattle.table.specs.declared.lent.Edges.{Edges}
use Rattle.table.specs.Edges.{Arrays, borrowed}

-- the part of a table that is lent
abbrev pub edges_in : Edges → Arrays
edges_in e = borrowed e.states e.ways e.word e.next
