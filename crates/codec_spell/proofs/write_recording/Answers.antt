use Rattle.std.proofs.Common.{◌-◌}
use Rattle.laws.proofs.All.{refl, arith, length, replicate}
use Rattle.table.specs.Edges.{rows_of}
use Rattle.table.specs.Lent.{edges_in}
use Rattle.codec_spell.proofs.Writing.{recorded}
use Rattle.codec_spell.proofs.write_recording.Goals as goal

pub returns : goal.returns
returns c =
    let a = c.args in
    let state = c.write_blocks-state in
    record {
      written = recorded (rows_of (edges_in a.edges)) a.blocks.now
          (replicate (a.count - length a.blocks.now) a.tail) a.out.now _ _ (length a.blocks.now) state.result a.count
          refl state.ensures.answer.0 (omega arith) state.ensures.written c.write_closing.ensures.written;
    }
