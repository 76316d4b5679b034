-- The checks in their order, then the stream of the words of the blocks and of the closing words.
use Rattle.std.proofs.Common.{◌≡◌, ◌+◌, ◌≤◌, ◌<◌, ◌^◌}
use Rattle.laws.proofs.All.{refl, sym, ap, subst, ◌∙◌, true, arith, T}
use Rattle.laws.proofs.All.{length, Below}
use Rattle.answer.specs.declared.Refusal.TheVariants.{Field, ShortOutput, Stream}
use Rattle.answer.specs.FirstBad.{all_below}
use Rattle.answer.proofs.FirstBad.{all_below→}
use Rattle.answer.proofs.Outcomes.{handed_on}
use Rattle.answer.proofs.Answered.{declined, finished}
use Rattle.table.specs.Paths.{recording}
use Rattle.table.specs.Value.{Ready, ready, code_in}
use Rattle.table.proofs.ReadyTables.{ready→, ready-formed}
use Rattle.table.specs.Edges.{Arrays}
use Rattle.table.specs.Lent.{edges_in}
use Rattle.stream_pack.specs.Streams.{limit, stream_size, packed}
use Rattle.stream.specs.Recorded.{streamed_with}
use Rattle.stream.proofs.Written.{stream-7, stream-15, stream-13, stream-last}
use Rattle.stream_encode.proofs.Putting.{recorded-size, recorded-in}
use Rattle.stream_encode.proofs.encode_stream_with.Goals.{In_ok-check_below, Else-most-blocks, Else-not-is_ready}
use Rattle.stream_encode.proofs.encode_stream_with.Goals.{After-of-edges, Else-out-size}
use Rattle.stream_encode.proofs.encode_stream_with.Goals as goal

is-ready : (c : Else-not-is_ready) → ready c.args.t ≡ true
is-ready c = sym c.is_ready.ensures.answer ∙ c.if-not-is_ready.false

ready-table : (c : Else-not-is_ready) → Ready c.args.t
ready-table c = ready→ c.args.t (subst T (sym (is-ready c)) tt)

lookahead-small : (c : Else-not-is_ready) → c.args.t.lookahead < 16
lookahead-small c = (ready-formed c.args.t (subst T (sym (is-ready c)) tt)).range.a

-- the tail datum is a block
tail-small : (c : Else-not-is_ready) → c.args.t.tail < 2 ^ c.args.t.p
tail-small c = (ready-formed c.args.t (subst T (sym (is-ready c)) tt)).range.tail

few_words : (c : Else-most-blocks)
    → let a = c.args in length a.blocks.now + a.t.lookahead ≤ limit
few_words c = omega (
  arith,
  c.if-most-blocks.false,
  ((ready-formed c.args.t (subst T (sym (sym c.is_ready.ensures.answer ∙ c.if-not-is_ready.false)) tt)).range.a),
)

-- as many data as the table has
ways-are : (c : After-of-edges) → c.of-edges.result.ways ≡ 2 ^ c.args.t.p
ways-are c = ap (λ (a : Arrays). a.ways) c.of-edges.ensures.answer

room : (c : Else-out-size)
    → let a = c.args in
    stream_size a.t.q (length a.blocks.now + a.t.lookahead) ≤ length a.out.now
room c =
    let a = c.args in
    subst (λ n. n ≤ length a.out.now) c.stream_size-size.ensures.answer c.if-out-size.false

blocks-below : (c : In_ok-check_below) → Below c.of-edges.result.ways c.args.blocks.now
blocks-below c =
    let ds = c.args.blocks.now in
    (all_below→ c.of-edges.result.ways ds ds ds (sym (c.in_ok-check_below.ensures.answer ds))).0

-- with room enough only the blocks are left to check
last : (c : Else-out-size) → let a = c.args in
    ready a.t ≡ true → length a.blocks.now + a.t.lookahead ≤ limit
    → streamed_with a.t (length a.out.now) a.blocks.now
    ≡ all_below (2 ^ a.t.p) a.blocks.now (packed a.t.q (recording (code_in a.t) a.blocks.now))
last c r h =
    let a = c.args in
    stream-last a.t (length a.out.now) a.blocks.now r _ refl h (room c)

pub returns-then-not-is_ready : goal.returns-then-not-is_ready
returns-then-not-is_ready c =
    let a = c.args in
    let w = declined (streamed_with a.t (length a.out.now) a.blocks.now) Field a.out.now
    (stream-7 a.t (length a.out.now) a.blocks.now
    (sym c.is_ready.ensures.answer ∙ c.if-not-is_ready.true)) in
    record { answer = w.0; written = w.1 }

pub overflow_sub-most : goal.overflow_sub-most
overflow_sub-most c = omega (arith, lookahead-small (goal.at.overflow_sub-most c).Else-not-is_ready)

pub returns-then-most-blocks : goal.returns-then-most-blocks
returns-then-most-blocks c =
    let a = c.args in
    let w = declined (streamed_with a.t (length a.out.now) a.blocks.now) Stream a.out.now
    (stream-15 a.t (length a.out.now) a.blocks.now (is-ready (goal.at.returns-then-most-blocks c).Else-not-is_ready) _
    refl
    (omega (arith, c.if-most-blocks.true, lookahead-small (goal.at.returns-then-most-blocks c).Else-not-is_ready))) in
    record { answer = w.0; written = w.1 }

pub stream_size-size-requires : goal.stream_size-size-requires
stream_size-size-requires c = (
  (ready-table (goal.at.stream_size-size-requires c).Else-not-is_ready).short,
  few_words
      (goal.at.stream_size-size-requires c).Else-most-blocks,
)

pub returns-then-out-size : goal.returns-then-out-size
returns-then-out-size c =
    let a = c.args in
    let w = declined (streamed_with a.t (length a.out.now) a.blocks.now) ShortOutput a.out.now
    (stream-13 a.t (length a.out.now) a.blocks.now (is-ready (goal.at.returns-then-out-size c).Else-not-is_ready) _ refl
    (few_words (goal.at.returns-then-out-size c).Else-most-blocks)
    (subst (λ n. length a.out.now < n) c.stream_size-size.ensures.answer c.if-out-size.true)) in
    record { answer = w.0; written = w.1 }

pub of-edges-requires : goal.of-edges-requires
of-edges-requires c = ready-table (goal.at.of-edges-requires c).Else-not-is_ready

pub returns-in_err-check_below : goal.returns-in_err-check_below
returns-in_err-check_below c =
    let i = goal.at.returns-in_err-check_below c in
    let a = c.args in
    let ds = a.blocks.now in
    let xs = packed a.t.q (recording (code_in a.t) ds) in
    let w = declined (streamed_with a.t (length a.out.now) ds) _ a.out.now
    (last i.Else-out-size (is-ready i.Else-not-is_ready) (few_words i.Else-most-blocks)
    ∙ ap (λ n. all_below n ds xs) (sym (ways-are i.After-of-edges)) ∙ sym (c.in_err-check_below.ensures.answer xs)) in
    rw (handed_on _ _ c.from_residual.ensures.1) (record { answer = w.0; written = w.1 })

pub put_recording-requires : goal.put_recording-requires
put_recording-requires c =
    let t = c.args.t in
    let l = goal.at.put_recording-requires c in (
      blocks-below l.In_ok-check_below,
      omega (arith, ways-are l.After-of-edges, tail-small l.Else-not-is_ready),
      few_words l.Else-most-blocks,
      omega arith,
      rw c.of-edges.ensures.width (room l.Else-out-size),
    )

pub returns : goal.returns
returns c =
    let i = goal.at.returns c in
    let a = c.args in
    let ds = a.blocks.now in
    let xs = packed a.t.q (recording (code_in a.t) ds) in
    let out = a.out.now in
    let w = finished (streamed_with a.t (length out) ds) xs out _ c.stream_size-size.result
    (last i.Else-out-size (is-ready i.Else-not-is_ready) (few_words i.Else-most-blocks)
    ∙ ap (λ n. all_below n ds xs) (sym (ways-are i.After-of-edges)) ∙ sym (c.in_ok-check_below.ensures.answer xs))
    (recorded-size a.t ds c.stream_size-size.result c.stream_size-size.ensures.answer)
    (recorded-in a.t ds c.stream_size-size.result c.stream_size-size.ensures.answer (edges_in c.of-edges.result)
    c.of-edges.result.q out _ c.of-edges.ensures.answer c.of-edges.ensures.width c.put_recording.ensures.written) in
    record { answer = w.0; written = w.1 }
