-- The text put since the loop began has the lines of the states passed.
use Rattle.std.proofs.Common.{◌≡◌}
use Rattle.constraint.specs.Value.{constraint_of}
use Rattle.text.specs.Texts.{Added}
use Rattle.view_show.specs.Limits.{states_to}
use Rattle.view_show.proofs.limits.write_states.Given as goal

abbrev pub invariant-loop-s : goal.invariant-loop-s
invariant-loop-s l =
    let begin = l.initial.to in
    (l.to.out.ghost_name ≡ begin.out.ghost_name)
    × Added (states_to (constraint_of l.c) l.s) begin.at begin.out.now l.to.out.now l.to.at
