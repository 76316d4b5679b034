use Rattle.std.proofs.Common.{◌≡◌, ◌+◌, ◌≤◌}
use Rattle.laws.proofs.All.{refl, sym, ap, ◌∙◌, min, zero-min, zero-add}
use Rattle.laws.proofs.All.{arith, le-min, min-le_left, min-le_right, drop}
use Rattle.table.specs.Edges.{rows_of}
use Rattle.stream_pack.specs.Streams.{unpacked}
use Rattle.stream_pack.proofs.Streams.{length-unpacked}
use Rattle.codec_groups.specs.Lent.{lent_edges}
use Rattle.codec_verify.specs.Counting.{agreed, due_in}
use Rattle.codec_verify.proofs.Steps.{length-followed}
use Rattle.stream_verify.proofs.Turns.{part-stops, part-passes, all-passed}
use Rattle.stream_verify.proofs.parts.count_parts.Goals as goal

pub loop-i-init : goal.loop-i-init
loop-i-init c =
    let z = zero-min c.args.count in (
      omega arith,
      c.args.grouped.now.edges.fits.some,
      sym (ap (λ j. j + agreed (rows_of (lent_edges c.args.grouped.now)) c.args.grouped.now.edges.ways 0
          (drop j (due_in (lent_edges c.args.grouped.now) c.args.k
          (unpacked c.args.k.q c.args.count c.args.stream.now)))
          (drop j (unpacked c.args.k.q c.args.count c.args.stream.now))) z
          ∙ zero-add _),
    )

pub count_part-r-requires : goal.count_part-r-requires
count_part-r-requires c =
    let l = c.loop-i in
    let e : c.smaller-end.result ≡ min (l.i + 1024) c.args.count = c.smaller-end.ensures.answer in
    let g : l.i ≤ min (l.i + 1024) c.args.count =
    le-min (omega arith) (omega (arith, c.loop-i-test.true)) in (
      c.requires.0,
      c.requires.1,
      c.requires.2,
      c.requires.3,
      c.requires.4,
      c.requires.5,
      l.invariant.0,
      omega arith,
      omega (arith, min-le_left (l.i + 1024) c.args.count),
      omega (arith, min-le_right (l.i + 1024) c.args.count),
      l.invariant.1,
      c.saturating_sub.ensures,
    )

pub returns-then-place-end : goal.returns-then-place-end
returns-then-place-end c =
    let l = c.loop-i in
    record {
      answer = part-stops (lent_edges c.args.grouped.now)
          (due_in (lent_edges c.args.grouped.now) c.args.k (unpacked c.args.k.q c.args.count c.args.stream.now))
          (unpacked c.args.k.q c.args.count c.args.stream.now) l.s l.i c.args.count l.invariant.2 _
          c.count_part-r.result
          c.count_part-r.ensures.answer c.loop-i-test.true refl refl c.if-place-end.true;
    }

pub loop-i-preserved : goal.loop-i-preserved
loop-i-preserved c =
    let l = c.loop-i in (
      omega (arith, l.invariant.0),
      c.count_part-r.ensures.answer.inside,
      part-passes (lent_edges c.args.grouped.now)
          (due_in (lent_edges c.args.grouped.now) c.args.k (unpacked c.args.k.q c.args.count c.args.stream.now))
          (unpacked c.args.k.q c.args.count c.args.stream.now) l.s l.i c.args.count l.invariant.2 _
          c.count_part-r.result
          c.count_part-r.ensures.answer c.loop-i-test.true refl refl c.if-place-end.false c.smaller-end.ensures.answer,
    )

pub returns : goal.returns
returns c =
    let l = c.loop-i in
    let k = c.args.k in
    let w = length-unpacked c.args.k.q c.args.count c.args.stream.now in
    record {
      answer = all-passed (lent_edges c.args.grouped.now)
          (due_in (lent_edges c.args.grouped.now) c.args.k (unpacked c.args.k.q c.args.count c.args.stream.now))
          (unpacked c.args.k.q c.args.count c.args.stream.now) l.s l.i c.args.count l.invariant.2 c.loop-i-test.false
          (length-followed (rows_of (lent_edges c.args.grouped.now)) k.memory k.lookahead k.tail
          (unpacked c.args.k.q c.args.count c.args.stream.now) (omega (arith, w, c.requires.5)))
          (sym w);
    }
