-- The edges below i have their new source.
use Rattle.laws.proofs.All.{map}
use Rattle.compile_order.specs.EdgeKeys.{arc_of}
use Rattle.compile_parts.proofs.MovedSources.{Resourced, new_source}
use Rattle.compile_parts.proofs.move_edges.Given as goal

abbrev pub invariant-loop-i : goal.invariant-loop-i
invariant-loop-i l = Resourced l.g (new_source l.g l.s (map (arc_of l.s) l.kept)) l.i l.h
