-- The text put since the loop began has the words passed.
use Rattle.std.proofs.Common.{◌≡◌}
use Rattle.text.specs.Texts.{Added}
use Rattle.view_matrix.specs.Matrix.{column_text, in_row}
use Rattle.view_matrix.proofs.write_heading.Given as goal

abbrev pub invariant-loop-w : goal.invariant-loop-w
invariant-loop-w l =
    let begin = l.initial.to in
    (l.to.out.ghost_name ≡ begin.out.ghost_name)
    × Added (in_row (column_text l.q) l.w) begin.at begin.out.now l.to.out.now l.to.at
