-- No datum below j leads where d leads; the first that does ends the loop.
use Rattle.std.proofs.Common.{◌≡◌}
use Rattle.laws.proofs.All.{false}
use Rattle.table.specs.Marks.{some}
use Rattle.table.specs.Value.{next_at}
use Rattle.view_draw.specs.Drawn.{joined}
use Rattle.view_draw.proofs.is_opening.Given as goal

abbrev pub invariant-loop-j : goal.invariant-loop-j
invariant-loop-j l = some (joined (next_at l.code l.s) l.d) l.j ≡ false
