-- The edges are laid one by one.
use Rattle.compile_table.specs.Finishing.{RowPut}
use Rattle.compile_table.proofs.finish_table.put_row.Given as goal

abbrev pub invariant-loop-d : goal.invariant-loop-d
invariant-loop-d l = RowPut l.fn.rows l.list l.index l.i l.d l.r
