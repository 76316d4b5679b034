use Rattle.std.proofs.Common.{◌≡◌, ◌++◌}
use Rattle.laws.proofs.All.{ap, ◌∙◌, map, arith, length, drop, length-set}
use Rattle.laws.proofs.All.{from, map_more}
use Rattle.table.specs.Edges.{rows_of}
use Rattle.codec_groups.specs.Lent.{lent_edges}
use Rattle.codec_steps.specs.Reading.{block}
use Rattle.codec_steps.specs.BlockParts.{under}
use Rattle.codec_blocks.proofs.read_blocks.Goals as goal

pub loop-i-preserved : goal.loop-i-preserved
loop-i-preserved c =
    let l = c.loop-i in
    let a = c.args in (
      length-set l.out l.i c.read_block.result ∙ l.invariant.0,
      map_more (block (under (rows_of (lent_edges a.grouped.now)) a.m a.a) a.words.now) a.begin a.out.now l.out l.i
          c.read_block.result l.invariant.1 c.read_block.ensures.answer (omega (arith, l.invariant.0)),
    )

pub returns : goal.returns
returns c =
    let l = c.loop-i in
    let a = c.args in
    let f = block (under (rows_of (lent_edges a.grouped.now)) a.m a.a) a.words.now in
    let e : l.i ≡ a.count = omega arith in
    record { written = l.invariant.1 ∙ ap (λ k. map f (from a.begin k) ++ drop k a.out.now) e }
