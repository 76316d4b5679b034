use Rattle.std.proofs.Common.{◌≡◌, ◌+◌, ◌*◌, ◌<◌}
use Rattle.laws.proofs.All.{sym, ap, ◌∙◌, add-zero, zero-add, arith}
use Rattle.laws.proofs.All.{length, get_or}
use Rattle.table.specs.Edges.{rows_of, next_of}
use Rattle.table.proofs.RowsOf.{place-next}
use Rattle.codec_groups.specs.Lent.{lent_edges}
use Rattle.codec_verify.specs.Counting.{due_in}
use Rattle.codec_verify.proofs.Steps.{agreed-bad, agreed-end, other_word, same_word, length-followed}
use Rattle.codec_verify.proofs.counting.count_words.Goals.{After-datum_at-d, Start}
use Rattle.codec_verify.proofs.counting.count_words.Goals as goal

due-long : (s : Start) → length (due_in (lent_edges s.args.grouped.now) s.args.k s.args.words.now)
    ≡ length s.args.words.now
due-long s =
    let k = s.args.k in
    length-followed (rows_of (lent_edges s.args.grouped.now)) k.memory k.lookahead k.tail
    s.args.words.now s.requires

pub loop-i-init : goal.loop-i-init
loop-i-init c = (c.args.grouped.now.edges.fits.some, sym (zero-add _))

pub datum_at-d-requires : goal.datum_at-d-requires
datum_at-d-requires c =
    (c.requires, c.loop-i-test.true)

-- the datum
datum : (c : After-datum_at-d) → c.datum_at-d.result
    ≡ get_or (due_in (lent_edges c.args.grouped.now) c.args.k c.args.words.now) (c.loop-i.i) 0
datum c = c.datum_at-d.ensures.answer

inside : (c : After-datum_at-d) → (c.loop-i.i) < length
    (due_in (lent_edges c.args.grouped.now) c.args.k c.args.words.now)
inside c = omega (
  arith,
  (let k = c.args.k in
      length-followed (rows_of (lent_edges c.args.grouped.now)) k.memory k.lookahead k.tail
      c.args.words.now c.requires),
  c.loop-i-test.true,
)

place-small : (c : After-datum_at-d) → (h : c.datum_at-d.result < c.args.grouped.now.edges.ways)
    → (c.loop-i.s) * 16 + c.datum_at-d.result < 2048
place-small c h =
    let f = c.args.grouped.now.edges.fits in omega (arith, c.loop-i.invariant.0, f.few, f.narrow, h)

next_small : (c : After-datum_at-d) → (h : c.datum_at-d.result < c.args.grouped.now.edges.ways)
    → next_of (lent_edges c.args.grouped.now) ((c.loop-i.s) * 16 + c.datum_at-d.result) <
    c.args.grouped.now.edges.states
next_small c h = place-next (lent_edges c.args.grouped.now) (c.loop-i.s) _ c.args.grouped.now.edges.fits
    c.loop-i.invariant.0 h

pub returns-then-edges-d : goal.returns-then-edges-d
returns-then-edges-d c =
    let l = c.loop-i in
    record {
      answer = sym (l.invariant.1 ∙ ap (λ k. l.i + k)
          (agreed-bad (rows_of (lent_edges c.args.grouped.now)) c.args.grouped.now.edges.ways l.s
          (due_in (lent_edges c.args.grouped.now) c.args.k c.args.words.now) c.args.words.now l.i
          (inside (goal.at.returns-then-edges-d c).After-datum_at-d) c.loop-i-test.true
          (omega (arith, datum (goal.at.returns-then-edges-d c).After-datum_at-d, c.if-edges-d.true)))
          ∙ add-zero l.i);
    }

pub loop-i-preserved : goal.loop-i-preserved
loop-i-preserved c =
    let l = c.loop-i in (
      next_small (goal.at.loop-i-preserved c).After-datum_at-d c.if-edges-d.false,
      l.invariant.1 ∙ same_word (lent_edges c.args.grouped.now) l.s
          (due_in (lent_edges c.args.grouped.now) c.args.k c.args.words.now) c.args.words.now l.i c.datum_at-d.result
          (inside (goal.at.loop-i-preserved c).After-datum_at-d)
          c.loop-i-test.true (datum (goal.at.loop-i-preserved c).After-datum_at-d) l.invariant.0 c.if-edges-d.false
          c.if-edges-e.false,
    )

pub overflow_mul-e : goal.overflow_mul-e
overflow_mul-e c = omega (arith, c.loop-i.invariant.0, c.args.grouped.now.edges.fits.few)

pub overflow_add-e : goal.overflow_add-e
overflow_add-e c = omega (arith, place-small (goal.at.overflow_add-e c).After-datum_at-d c.if-edges-d.false)

pub returns-then-edges-e : goal.returns-then-edges-e
returns-then-edges-e c =
    let l = c.loop-i in
    record {
      answer = sym (l.invariant.1 ∙ ap (λ k. l.i + k)
          (other_word (lent_edges c.args.grouped.now) l.s
          (due_in (lent_edges c.args.grouped.now) c.args.k c.args.words.now) c.args.words.now l.i
          c.datum_at-d.result (inside (goal.at.returns-then-edges-e c).After-datum_at-d) c.loop-i-test.true
          (datum (goal.at.returns-then-edges-e c).After-datum_at-d) l.invariant.0 c.if-edges-d.false c.if-edges-e.true)
          ∙ add-zero l.i);
    }

pub overflow_cast-s : goal.overflow_cast-s
overflow_cast-s c =
    omega (arith, c.args.grouped.now.edges.fits.few, next_small (goal.at.overflow_cast-s c).After-datum_at-d c.if-edges-d.false)

pub returns : goal.returns
returns c =
    let l = c.loop-i in
    let z : length c.args.words.now ≡ l.i = omega (arith, c.loop-i-test.false) in
    record {
      answer = z ∙ sym (l.invariant.1 ∙ ap (λ k. l.i + k)
          (agreed-end (rows_of (lent_edges c.args.grouped.now)) c.args.grouped.now.edges.ways l.s
          (due_in (lent_edges c.args.grouped.now) c.args.k c.args.words.now) c.args.words.now l.i
          (due-long (goal.at.returns c).Start) (omega arith)) ∙ add-zero l.i);
    }
