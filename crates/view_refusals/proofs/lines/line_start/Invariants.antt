-- From the place on stands the text without its first i lines.
use Rattle.std.proofs.Common.{◌≡◌, ◌≤◌}
use Rattle.laws.proofs.All.{length, drop}
use Rattle.view_refusals.specs.TextLines.{rest}
use Rattle.view_refusals.proofs.lines.line_start.Given as goal

abbrev pub invariant-loop-i : goal.invariant-loop-i
invariant-loop-i l = (l.from ≤ length l.text) × (drop l.from l.text ≡ rest l._i l.text)
