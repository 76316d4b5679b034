-- The groups are laid, then the blocks are read part by part.
use Rattle.std.proofs.Common.{◌++◌, ◌*◌, ◌-◌, ◌≤◌}
use Rattle.laws.proofs.All.{sym, ap₂, subst, ◌∙◌, map, length, drop, range}
use Rattle.table.specs.Edges.{rows_of}
use Rattle.codec_steps.specs.Reading.{block}
use Rattle.codec_steps.specs.BlockParts.{under}
use Rattle.stream_pack.specs.Streams.{unpacked}
use Rattle.stream_decode.proofs.read_all.Goals as goal

pub read_parts-requires : goal.read_parts-requires
read_parts-requires c =
    let a = c.args in (
      c.requires.0,
      subst (λ q. a.count * q ≤ 8 * length a.stream.now) (sym c.of-grouped.ensures.width) c.requires.1,
      c.requires.2,
      c.requires.3,
      c.requires.4,
      c.requires.5,
    )

pub returns : goal.returns
returns c =
    let a = c.args in
    let n = a.count - a.a in
    record {
      written = c.read_parts.ensures.written
          ∙ ap₂ (λ t q. map (block (under (rows_of t) a.m a.a) (unpacked q a.count a.stream.now)) (range n)
          ++ drop n a.out.now) c.of-grouped.ensures.answer c.of-grouped.ensures.width;
    }
