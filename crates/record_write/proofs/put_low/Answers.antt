-- `put_low` meets its contract: the bits above the width do not matter.
use Rattle.laws.proofs.All.{◌∙◌, mod-lt, pow_pos}
use Rattle.bits.specs.Fields.{bits_of}
use Rattle.record.proofs.RecordParts.{put-low-is}
use Rattle.record_write.proofs.put_low.Goals as goal

pub put-requires : goal.put-requires
put-requires c =
    (c.requires.0, c.requires.1, rw c.low_bits.ensures.answer (mod-lt _ (pow_pos c.args.width)))

pub returns : goal.returns
returns c =
    let a = c.args in
    record {
      written = c.put.ensures.written ∙ put-low-is (bits_of a.out.now) a.at a.width a.x _
          c.low_bits.ensures.answer;
      kept = c.put.ensures.kept;
    }
