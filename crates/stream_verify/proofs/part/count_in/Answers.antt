use Rattle.std.proofs.Common.{◌≡◌, ◌+◌, ◌*◌, ◌<◌}
use Rattle.laws.proofs.All.{refl, sym, ap, ◌∙◌, List, ℕ, arith, length, drop}
use Rattle.table.specs.Edges.{rows_of, next_of}
use Rattle.table.proofs.RowsOf.{place-next}
use Rattle.codec_groups.specs.Lent.{lent_edges}
use Rattle.codec_verify.specs.Counting.{agreed, due_in}
use Rattle.codec_verify.proofs.Steps.{agreed-bad, other_word, same_word, length-followed}
use Rattle.stream_verify.proofs.part.count_in.Goals.{After-datum_in-d}
use Rattle.stream_verify.proofs.part.count_in.Goals as goal

pub loop-place-init : goal.loop-place-init
loop-place-init c =
    (omega arith, c.requires.2, c.requires.4, (λ U h. refl))

pub datum_in-d-requires : goal.datum_in-d-requires
datum_in-d-requires c =
    (c.requires.0, c.requires.1, c.loop-place.invariant.0, c.loop-place-test.true, c.requires.3)

in_words : (c : After-datum_in-d) → (U : List ℕ) → (l : length U ≡ c.args.part.count) → (c.loop-place.place) < length U
in_words c U l = omega (arith, c.loop-place-test.true, c.requires.3)

in-data : (c : After-datum_in-d) → (U : List ℕ) → (l : length U ≡ c.args.part.count)
    → (c.loop-place.place) < length (due_in (lent_edges c.args.grouped.now) c.args.k U)
in-data c U l =
    let k = c.args.k in
    omega (
      arith,
      ((in_words c) U l),
      length-followed (rows_of (lent_edges c.args.grouped.now)) k.memory k.lookahead k.tail U
          (omega (arith, c.requires.1)),
    )

place-small : (c : After-datum_in-d) → (h : c.datum_in-d.result < c.args.grouped.now.edges.ways)
    → (c.loop-place.state) * 16 + c.datum_in-d.result < 2048
place-small c h = let f = c.args.grouped.now.edges.fits in omega (arith, c.loop-place.invariant.2, f.few, f.narrow, h)

next_small : (c : After-datum_in-d) → (h : c.datum_in-d.result < c.args.grouped.now.edges.ways)
    → next_of (lent_edges c.args.grouped.now) ((c.loop-place.state) * 16 + c.datum_in-d.result) <
    c.args.grouped.now.edges.states
next_small c h = place-next (lent_edges c.args.grouped.now) (c.loop-place.state) _ c.args.grouped.now.edges.fits
    c.loop-place.invariant.2 h

pub returns-then-edges-d : goal.returns-then-edges-d
returns-then-edges-d c =
    let l = c.loop-place in
    record {
      answer = λ U h. record {
        after = l.invariant.0;
        before = l.invariant.1;
        inside = l.invariant.2;
        counted = l.invariant.3 U h;
        stopped = λ k. agreed-bad (rows_of (lent_edges c.args.grouped.now)) c.args.grouped.now.edges.ways l.state
            (due_in (lent_edges c.args.grouped.now) c.args.k U) U l.place
            (in-data (goal.at.returns-then-edges-d c).After-datum_in-d U h.long)
            (in_words (goal.at.returns-then-edges-d c).After-datum_in-d U h.long)
            (omega (arith, c.datum_in-d.ensures.answer U h, c.if-edges-d.true));
      };
    }

pub overflow_mul-e : goal.overflow_mul-e
overflow_mul-e c = omega (arith, c.loop-place.invariant.2, c.args.grouped.now.edges.fits.few)

pub overflow_add-e : goal.overflow_add-e
overflow_add-e c = omega (arith, place-small (goal.at.overflow_add-e c).After-datum_in-d c.if-edges-d.false)

pub overflow_sub-place : goal.overflow_sub-place
overflow_sub-place c =
    let (U, h) = c.requires.0 in
    omega (arith, h.before, c.loop-place.invariant.0)

pub bounds-words-place : goal.bounds-words-place
bounds-words-place c =
    let (U, h) = c.requires.0 in
    h.room (c.loop-place.place) c.loop-place.invariant.0 c.loop-place-test.true

pub returns-then-edges-e : goal.returns-then-edges-e
returns-then-edges-e c =
    let l = c.loop-place in
    record {
      answer = λ U h. record {
        after = l.invariant.0;
        before = l.invariant.1;
        inside = l.invariant.2;
        counted = l.invariant.3 U h;
        stopped = λ k. other_word (lent_edges c.args.grouped.now) l.state
            (due_in (lent_edges c.args.grouped.now) c.args.k U) U l.place c.datum_in-d.result
            (in-data (goal.at.returns-then-edges-e c).After-datum_in-d U h.long)
            (in_words (goal.at.returns-then-edges-e c).After-datum_in-d U h.long) (c.datum_in-d.ensures.answer U h)
            l.invariant.2 c.if-edges-d.false
            (λ y. c.if-edges-e.true (y ∙ sym (h.words l.place l.invariant.0 c.loop-place-test.true)));
      };
    }

pub overflow_cast-state : goal.overflow_cast-state
overflow_cast-state c =
    omega (arith, c.args.grouped.now.edges.fits.few, next_small (goal.at.overflow_cast-state c).After-datum_in-d c.if-edges-d.false)

pub loop-place-preserved : goal.loop-place-preserved
loop-place-preserved c =
    let l = c.loop-place in (
      omega (arith, l.invariant.0),
      omega (arith, c.loop-place-test.true),
      next_small (goal.at.loop-place-preserved c).After-datum_in-d c.if-edges-d.false,
      (λ U h. l.invariant.3 U h ∙ same_word (lent_edges c.args.grouped.now) l.state
          (due_in (lent_edges c.args.grouped.now) c.args.k U) U l.place c.datum_in-d.result
          (in-data (goal.at.loop-place-preserved c).After-datum_in-d U h.long)
          (in_words (goal.at.loop-place-preserved c).After-datum_in-d U h.long) (c.datum_in-d.ensures.answer U h)
          l.invariant.2 c.if-edges-d.false
          (c.if-edges-e.false ∙ h.words l.place l.invariant.0 c.loop-place-test.true)),
    )

pub returns : goal.returns
returns c =
    let l = c.loop-place in
    let t = lent_edges c.args.grouped.now in
    let z : l.place ≡ c.args.part.end = omega (arith, l.invariant.1, c.loop-place-test.false) in
    record {
      answer = λ U h. record {
        after = c.requires.2;
        before = omega arith;
        inside = l.invariant.2;
        counted = l.invariant.3 U h
            ∙ ap (λ p. p + agreed (rows_of t) t.ways l.state (drop p (due_in t c.args.k U)) (drop p U)) z;
        stopped = λ k. absurd (omega (arith, k));
      };
    }
