-- State by state, until there are too many edges.
use Rattle.compile_component.specs.ComponentParts.{row_of_state}
use Rattle.compile_component.proofs.AppendedRows.{Done}
use Rattle.compile_component.proofs.component_graph.add_states.Given as goal

abbrev pub invariant-loop-s : goal.invariant-loop-s
invariant-loop-s l = Done (row_of_state l.power l.words l.index) l.fn.g l.h l.s
