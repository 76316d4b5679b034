-- The array holds the field of every edge passed.
use Rattle.bits.specs.Fields.{bits_of}
use Rattle.record.specs.Places.{Column}
use Rattle.record.proofs.columns.column.Given as goal

abbrev pub invariant-loop-e : goal.invariant-loop-e
invariant-loop-e l = Column (bits_of l.bytes) l.n l.e l.first l.step l.width l.a
