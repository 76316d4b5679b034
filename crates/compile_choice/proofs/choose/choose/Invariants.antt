-- The lowest source of an edge that leads from a state of the greatest weight to a lighter one, or 128 for none.
use Rattle.std.specs.Option.{unwrap_or}
use Rattle.compile_choice.proofs.Choosing.{Lowest, lightens, source_at}
use Rattle.compile_choice.proofs.choose.choose.Given as goal

abbrev pub invariant-loop-i : goal.invariant-loop-i
invariant-loop-i l = Lowest (lightens l.g l.m) (source_at l.g l.m) l.i (unwrap_or l.lowest 128)
