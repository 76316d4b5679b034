-- The text put since the loop began has the lines of the records passed.
use Rattle.std.proofs.Common.{◌≡◌}
use Rattle.text.specs.Texts.{Added}
use Rattle.set_lines.specs.SetText.{lines_to}
use Rattle.set_lines.proofs.write_records.Given as goal

abbrev pub invariant-loop-i : goal.invariant-loop-i
invariant-loop-i l =
    let begin = l.initial.to in
    (l.to.out.ghost_name ≡ begin.out.ghost_name)
    × Added (lines_to l.set l.i) begin.at begin.out.now l.to.out.now l.to.at
