-- The text put since the loop began has the states passed.
use Rattle.std.proofs.Common.{◌≡◌}
use Rattle.text.specs.Texts.{Added}
use Rattle.view_matrix.specs.Matrix.{row_text, in_row}
use Rattle.view_matrix.proofs.write_axes.Given as goal

abbrev pub invariant-loop-s : goal.invariant-loop-s
invariant-loop-s l =
    let begin = l.initial.to in
    (l.to.out.ghost_name ≡ begin.out.ghost_name)
    × Added (in_row (row_text l.n) l.s) begin.at begin.out.now l.to.out.now l.to.at
