-- Rounds until nothing changes; further rounds change nothing, and K × cap rounds are always enough.
use Rattle.compile_weights.specs.PowerTable.{tabled}
use Rattle.compile_weights.proofs.WeightRounds.{Round}
use Rattle.compile_weights.proofs.state_weights.state_weights.Given as goal

abbrev pub invariant-loop-round : goal.invariant-loop-round
invariant-loop-round l = Round l.n l.cap l.k (tabled l.power l.words l.k) l._round l.v
