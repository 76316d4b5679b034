-- The words are tried one by one.
use Rattle.std.proofs.Common.{◌≡◌, ◌≤◌}
use Rattle.compile_weights.specs.PowerTable.{word_count}
use Rattle.compile_weights.proofs.state_weights.words_between.Given as goal

abbrev pub invariant-loop-w : goal.invariant-loop-w
invariant-loop-w l = (l.count ≤ l.w) × (l.count ≡ word_count l.power l.w l.s l.t)
