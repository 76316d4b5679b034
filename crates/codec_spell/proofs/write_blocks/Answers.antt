use Rattle.std.proofs.Common.{◌+◌, ◌<◌}
use Rattle.laws.proofs.All.{refl, [], arith, length, get_or, below_at}
use Rattle.table.specs.Lent.{edges_in}
use Rattle.codec_spell.proofs.Writing.{writes_start, writes_more, writes_end}
use Rattle.codec_spell.proofs.write_blocks.Goals.{In-loop-i}
use Rattle.codec_spell.proofs.write_blocks.Goals as goal

-- the block in hand
datum-small : (c : In-loop-i) → get_or c.args.blocks.now c.loop-i.i 0 < c.args.edges.ways
datum-small c = below_at c.args.edges.ways c.args.blocks.now c.loop-i.i c.requires.0 c.loop-i-test.true

pub loop-i-init : goal.loop-i-init
loop-i-init c =
    let a = c.args in
    writes_start (edges_in a.edges) [] 0 c.args.blocks.now a.out.now 0 refl a.edges.fits.some refl

pub loop-i-preserved : goal.loop-i-preserved
loop-i-preserved c =
    let a = c.args in
    let l = c.loop-i in
    writes_more (edges_in a.edges) [] 0 c.args.blocks.now a.out.now l.i l.i l.reached l.out l.invariant a.edges.fits
    (l.i + 1) _ refl refl c.loop-i-test.true (datum-small (goal.at.loop-i-preserved c).In-loop-i) (omega arith)

pub returns : goal.returns
returns c =
    let a = c.args in
    let l = c.loop-i in
    let w = writes_end (edges_in a.edges) [] 0 c.args.blocks.now a.out.now l.i l.i l.reached l.out l.invariant
    (length c.args.blocks.now) (omega arith) (omega arith) in
    record { answer = (w.0, l.invariant.inside); written = w.1 }
