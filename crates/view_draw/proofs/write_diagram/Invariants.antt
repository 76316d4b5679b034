-- The text put since the loop began has the arrows of the edges passed.
use Rattle.std.proofs.Common.{◌≡◌}
use Rattle.text.specs.Texts.{Added}
use Rattle.view_draw.specs.Drawn.{arrows_to}
use Rattle.view_draw.proofs.write_diagram.Given as goal

abbrev pub invariant-loop-e : goal.invariant-loop-e
invariant-loop-e l =
    let begin = l.initial.to in
    (l.to.out.ghost_name ≡ begin.out.ghost_name)
    × Added (arrows_to l.t l.e) begin.at begin.out.now l.to.out.now l.to.at
