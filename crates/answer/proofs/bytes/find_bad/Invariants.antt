-- The bytes passed are below n; the first that is not ends the loop.
use Rattle.std.proofs.Common.{◌≡◌, ◌+◌}
use Rattle.laws.proofs.All.{drop}
use Rattle.answer.specs.FirstBad.{first_bad}
use Rattle.answer.proofs.bytes.find_bad.Given as goal

abbrev pub invariant-loop-i : goal.invariant-loop-i
invariant-loop-i l = first_bad l.n l.bytes ≡ l.i + first_bad l.n (drop l.i l.bytes)
