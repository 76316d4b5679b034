-- Each turn writes the word of one block and steps to its next state.
use Rattle.laws.proofs.All.{[]}
use Rattle.table.specs.Lent.{edges_in}
use Rattle.codec_spell.proofs.Writing.{Writes}
use Rattle.codec_spell.proofs.write_blocks.Given as goal

abbrev pub invariant-loop-i : goal.invariant-loop-i
invariant-loop-i l = Writes (edges_in l.edges) [] 0 l.blocks l.initial.out l.i l.i l.reached l.out
