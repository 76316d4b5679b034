-- The text put since the loop began has the entries of the edges passed.
use Rattle.std.proofs.Common.{◌≡◌}
use Rattle.text.specs.Texts.{Added}
use Rattle.view_matrix.specs.Matrix.{cell}
use Rattle.view_listing.specs.Edges.{lines_to}
use Rattle.view_matrix.proofs.write_matrix.Given as goal

abbrev pub invariant-loop-e : goal.invariant-loop-e
invariant-loop-e l =
    let begin = l.initial.to in
    (l.to.out.ghost_name ≡ begin.out.ghost_name)
    × Added (lines_to (cell l.n) l.t l.e) begin.at begin.out.now l.to.out.now l.to.at
