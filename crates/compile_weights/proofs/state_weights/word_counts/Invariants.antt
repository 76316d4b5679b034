-- Place x gets the count for state x / 16 and target x % 16.
use Rattle.std.proofs.Common.{◌/◌, ◌%◌}
use Rattle.laws.proofs.All.{Filled}
use Rattle.compile_weights.specs.PowerTable.{word_count}
use Rattle.compile_weights.proofs.state_weights.word_counts.Given as goal

abbrev pub invariant-loop-x : goal.invariant-loop-x
invariant-loop-x l =
    Filled 0 (λ y. word_count l.power l.words (y / 16) (y % 16)) 256 l.x l.r
