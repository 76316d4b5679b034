-- Each turn writes the word of the datum and steps to its next state.
use Rattle.std.proofs.Common.{◌-◌}
use Rattle.laws.proofs.All.{take, replicate}
use Rattle.table.specs.Lent.{edges_in}
use Rattle.codec_spell.proofs.Writing.{Writes}
use Rattle.codec_spell.proofs.write_closing.Given as goal

abbrev pub invariant-loop-i : goal.invariant-loop-i
invariant-loop-i l =
    Writes (edges_in l.edges) (take l.at l.initial.out) l.state (replicate (l.end - l.at) l.datum) l.initial.out
    (l.i - l.at) l.i l.current l.out
