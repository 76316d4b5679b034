use Rattle.std.proofs.Common.{◌≡◌, ◌++◌, ◌+◌, ◌*◌, ◌^◌, ◌≤◌, ◌<◌}
use Rattle.laws.proofs.All.{ap, ◌∙◌, ℕ, arith, length, get_or, drop}
use Rattle.table.specs.Paths.{spells}
use Rattle.table.specs.Edges.{rows_of, next_of}
use Rattle.table.specs.Lent.{edges_in}
use Rattle.table.proofs.Paths.{length-spells}
use Rattle.table.proofs.RowsOf.{place-next, place-datum, place-lt}
use Rattle.stream_pack.specs.Streams.{stream_size, packed}
use Rattle.codec_spell.proofs.Writing.{closed, length-closed, closed-datum, closed-below}
use Rattle.stream_encode.proofs.Putting.{puts_none, puts-more, puts-room, puts-end}
use Rattle.stream_encode.proofs.put_recording.Goals.{After-datum_at, At-loop-i}
use Rattle.stream_encode.proofs.put_recording.Goals as goal

-- the datum in hand, as the code reads it, and its place among the edges
datum-is : (c : After-datum_at)
    → c.datum_at.result ≡ get_or (closed c.args.blocks.now c.args.tail c.args.count) c.loop-i.i 0
datum-is c =
    let a = c.args in
    c.datum_at.ensures.answer ∙ closed-datum a.blocks.now a.tail a.count c.requires.3 c.loop-i.i (omega arith)

datum-small : (c : After-datum_at) → c.datum_at.result < c.args.edges.ways
datum-small c =
    let a = c.args in
    rw (datum-is c) (closed-below a.blocks.now a.tail a.count c.requires.3 a.edges.ways c.loop-i.i c.requires.0
    c.requires.1 (omega arith))

place-small : (c : After-datum_at) → c.loop-i.state * 16 + c.datum_at.result < 2048
place-small c =
    let f = c.args.edges.fits in
    omega (arith, c.loop-i.invariant.inside, f.few, f.narrow, datum-small c)

word-small : (c : After-datum_at)
    → get_or c.args.edges.word.now (c.loop-i.state * 16 + c.datum_at.result) 0 < 2 ^ c.args.edges.q
word-small c =
    let e = c.args.edges in
    let t = edges_in e in
    let s = c.loop-i.state in
    let d = c.datum_at.result in
    let h = c.loop-i.invariant.inside in
    e.reading (s * 16 + d) (place-lt t s d e.fits h (datum-small c))
    (rw (place-datum t s d e.fits h (datum-small c)) (datum-small c))

next_small : (c : After-datum_at)
    → next_of (edges_in c.args.edges) (c.loop-i.state * 16 + c.datum_at.result) < c.args.edges.states
next_small c =
    place-next (edges_in c.args.edges) c.loop-i.state c.datum_at.result c.args.edges.fits c.loop-i.invariant.inside
    (datum-small c)

-- room for j words more
room : (l : At-loop-i) (j : ℕ) → l.loop-i.i + j ≤ l.args.count
    → l.loop-i.waiting.at * 8 + l.loop-i.waiting.count + j * l.args.edges.q ≤ 8 * length l.loop-i.out
room l j h =
    let a = l.args in
    let k = l.loop-i in
    puts-room (edges_in a.edges) a.edges.q (closed a.blocks.now a.tail a.count) a.out.now k.i k.state k.waiting k.out
    k.invariant j a.count h (rw (length-closed a.blocks.now a.tail a.count l.requires.3) (omega arith)) l.requires.4

pub loop-i-init : goal.loop-i-init
loop-i-init c =
    let a = c.args in
    puts_none (edges_in a.edges) a.edges.q (closed a.blocks.now a.tail a.count) a.out.now _ a.edges.fits.some
    (c.none-waiting.ensures.answer a.out.now)

pub overflow_add-edge : goal.overflow_add-edge
overflow_add-edge c = omega (arith, place-small c)

pub bounds-edges-edge : goal.bounds-edges-edge
bounds-edges-edge c = omega (arith, place-small (goal.at.bounds-edges-edge c).After-datum_at)

pub put_word-waiting-requires : goal.put_word-waiting-requires
put_word-waiting-requires c = (
  c.args.edges.narrow,
  word-small (goal.at.put_word-waiting-requires c).After-datum_at,
  omega (arith, room (goal.at.put_word-waiting-requires c).At-loop-i 1 (omega arith)),
)

pub bounds-edges-edge-in-loop-i : goal.bounds-edges-edge-in-loop-i
bounds-edges-edge-in-loop-i c = omega (arith, place-small (goal.at.bounds-edges-edge-in-loop-i c).After-datum_at)

pub loop-i-preserved : goal.loop-i-preserved
loop-i-preserved c =
    let a = c.args in
    let E = closed a.blocks.now a.tail a.count in
    let l = c.loop-i in
    let k = (goal.at.loop-i-preserved c).After-datum_at in
    let n : length E ≡ a.count = length-closed a.blocks.now a.tail a.count c.requires.3 in
    puts-more (edges_in a.edges) a.edges.q E a.out.now l.i l.state l.waiting l.out l.invariant a.edges.fits
    (omega (arith, n)) (rw (← datum-is k) (datum-small k)) _ (ap (λ x. l.state * 16 + x) (datum-is k)) _ _
    (c.put_word-waiting.ensures.written _ a.out.now l.invariant.waits)

pub put_fill-requires : goal.put_fill-requires
put_fill-requires c = omega (arith, room (goal.at.put_fill-requires c).At-loop-i 0 (omega arith))

pub returns : goal.returns
returns c =
    let a = c.args in
    let l = c.loop-i in
    let E = closed a.blocks.now a.tail a.count in
    let R = spells (rows_of (edges_in a.edges)) 0 E in
    let n : length E ≡ a.count = length-closed a.blocks.now a.tail a.count c.requires.3 in
    record {
      written = c.put_fill.ensures.written a.edges.q R a.out.now
          (puts-end (edges_in a.edges) a.edges.q E a.out.now l.i l.state l.waiting l.out l.invariant
          (omega (arith, n)))
          ∙ ap (λ n. packed a.edges.q R ++ drop (stream_size a.edges.q n) a.out.now)
          (length-spells (rows_of (edges_in a.edges)) E 0 ∙ n);
    }
