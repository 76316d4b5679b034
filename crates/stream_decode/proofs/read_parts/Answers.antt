use Rattle.std.proofs.Common.{◌≡◌, ◌++◌, ◌-◌}
use Rattle.laws.proofs.All.{refl, sym, ap, ◌∙◌, map, min, zero-min, min-eq_left, min-eq_right}
use Rattle.laws.proofs.All.{arith, drop, range, piece-more}
use Rattle.table.specs.Edges.{rows_of}
use Rattle.codec_groups.specs.Lent.{lent_edges}
use Rattle.codec_steps.specs.Reading.{block}
use Rattle.codec_steps.specs.BlockParts.{under}
use Rattle.stream_pack.specs.Streams.{unpacked}
use Rattle.stream_decode.proofs.Parts.{part_end}
use Rattle.stream_decode.proofs.read_parts.Goals as goal

pub loop-i-init : goal.loop-i-init
loop-i-init c =
    let o = c.args.out.now in (
      omega arith,
      refl,
      sym (ap (λ k. map (let a = c.args in
          block (under (rows_of (lent_edges a.grouped.now)) a.m a.a)
          (unpacked a.grouped.now.edges.q a.count a.stream.now)) (range k) ++ drop k o) (zero-min (c.args.count - c.args.a))),
    )

pub read_part-requires : goal.read_part-requires
read_part-requires c =
    let l = c.loop-i in
    let (b, f, e) = part_end l.i (c.args.count - c.args.a) c.smaller-end.result c.loop-i-test.true
    c.smaller-end.ensures.answer in (
      c.requires.0,
      c.requires.1,
      c.requires.2,
      c.requires.3,
      l.invariant.0,
      b,
      f,
      omega arith,
      omega (arith, l.invariant.1),
    )

pub loop-i-preserved : goal.loop-i-preserved
loop-i-preserved c =
    let l = c.loop-i in
    let n = c.args.count - c.args.a in
    let o = c.args.out.now in
    let (b, f, e) = part_end l.i n c.smaller-end.result c.loop-i-test.true c.smaller-end.ensures.answer in
    let whole : min l.i n ≡ l.i = min-eq_left (omega arith) in (
      omega (arith, l.invariant.0),
      omega (arith, c.out-1.given, l.invariant.1),
      piece-more (let a = c.args in
          block (under (rows_of (lent_edges a.grouped.now)) a.m a.a)
          (unpacked a.grouped.now.edges.q a.count a.stream.now)) l.i c.smaller-end.result o l.out _ b
          (l.invariant.2 ∙ ap (λ k. map (let a = c.args in
          block (under (rows_of (lent_edges a.grouped.now)) a.m a.a)
          (unpacked a.grouped.now.edges.q a.count a.stream.now)) (range k) ++ drop k o) whole) c.read_part.ensures.written
          ∙ ap (λ k. map (let a = c.args in
          block (under (rows_of (lent_edges a.grouped.now)) a.m a.a)
          (unpacked a.grouped.now.edges.q a.count a.stream.now)) (range k) ++ drop k o) c.smaller-end.ensures.answer,
    )

pub shape_of-out : goal.shape_of-out
shape_of-out c = c.loop-i.invariant.1

pub returns : goal.returns
returns c =
    let l = c.loop-i in
    let e : min l.i (c.args.count - c.args.a) ≡ c.args.count - c.args.a = min-eq_right (omega arith) in
    record {
      written = l.invariant.2 ∙ ap (λ k. map (let a = c.args in
          block (under (rows_of (lent_edges a.grouped.now)) a.m a.a)
          (unpacked a.grouped.now.edges.q a.count a.stream.now)) (range k) ++ drop k c.args.out.now) e;
    }
