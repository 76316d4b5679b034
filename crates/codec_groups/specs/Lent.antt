-- The groups that the structs `Groups` and `GroupedEdges` lend.
-- In order: GroupedBy; lent_edges.
-- Assumes nothing.
use Rattle.table.specs.Edges.{Arrays}
use Rattle.table.specs.Lent.{edges_in}
use Rattle.codec_groups.specs.declared.groups.Groups.{Groups}
use Rattle.codec_groups.specs.declared.groups.GroupedEdges.{GroupedEdges}
use Rattle.codec_groups.specs.Groups.{Grouped}

-- they are groups of the table t
abbrev pub GroupedBy : Arrays → Groups → Type 0
GroupedBy t g = Grouped t g.start.now g.first.now g.sets.now

-- the part of a table whose groups they are
abbrev pub lent_edges : GroupedEdges → Arrays
lent_edges g = edges_in g.edges
