-- The line's end, counted from the place passed, is its end.
use Rattle.std.proofs.Common.{◌≡◌, ◌+◌}
use Rattle.laws.proofs.All.{drop}
use Rattle.view_refusals.specs.TextLines.{line_end}
use Rattle.view_refusals.proofs.lines.line_end.Given as goal

abbrev pub invariant-loop-i : goal.invariant-loop-i
invariant-loop-i l = l.from + line_end (drop l.from l.text) ≡ l.i + line_end (drop l.i l.text)
