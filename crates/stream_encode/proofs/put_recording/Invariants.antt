-- Each turn puts the word of one datum and steps to its next state; the fill makes the stream.
use Rattle.table.specs.Lent.{edges_in}
use Rattle.codec_spell.proofs.Writing.{closed}
use Rattle.stream_encode.proofs.Putting.{Puts}
use Rattle.stream_encode.proofs.put_recording.Given as goal

abbrev pub invariant-loop-i : goal.invariant-loop-i
invariant-loop-i l =
    Puts (edges_in l.edges) l.edges.q (closed l.blocks l.tail l.count) l.initial.out l.i l.state l.waiting l.out
