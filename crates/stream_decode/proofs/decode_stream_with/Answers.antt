-- `stream_decode::decode_stream_with` meets its contract: the checks in their order, then the blocks part by part.
use Rattle.std.proofs.Common.{◌≡◌, ◌++◌, ◌-◌, ◌*◌, ◌^◌, ◌≤◌}
use Rattle.laws.proofs.All.{refl, sym, ap₂, subst, ◌∙◌, true, arith, T, length, drop, map, range}
use Rattle.answer.specs.declared.Refusal.TheVariants.{Field, TooFewWords, ShortOutput, Stream}
use Rattle.answer.proofs.Answered.{declined, finished}
use Rattle.table.specs.Value.{ready, code_in}
use Rattle.table.specs.Edges.{rows_of}
use Rattle.table.proofs.ReadyTables.{ready→, ready-formed}
use Rattle.codec_steps.specs.Reading.{block, decode}
use Rattle.codec_steps.specs.BlockParts.{under}
use Rattle.stream_pack.specs.Streams.{unpacked, good_stream}
use Rattle.stream_pack.proofs.Streams.{good-stream→}
use Rattle.stream.specs.Recorded.{unstreamed_with}
use Rattle.stream.proofs.Read.{unstream-7, unstream-15, unstream-12, unstream-13, unstream-done}
use Rattle.stream.proofs.Read.{length-unstreamed, unstreamed-in}
use Rattle.stream_decode.proofs.decode_stream_with.Goals.{Else-not-good, Else-not-is_ready}
use Rattle.stream_decode.proofs.decode_stream_with.Goals as goal

is-ready : (c : Else-not-is_ready) → ready c.args.t ≡ true
is-ready c = sym c.is_ready.ensures.answer ∙ c.if-not-is_ready.false

told-ready : (c : Else-not-is_ready) → T (ready c.args.t)
told-ready c = subst T (sym (is-ready c)) tt

is-good : (c : Else-not-good) → let a = c.args in
    good_stream a.t.q a.count a.stream.now ≡ true
is-good c = sym c.is_stream-good.ensures.answer ∙ c.if-not-good.false

pub returns-then-not-is_ready : goal.returns-then-not-is_ready
returns-then-not-is_ready c =
    let a = c.args in
    let w = declined (unstreamed_with a.t a.count (length a.out.now) a.stream.now) Field a.out.now
    (unstream-7 a.t a.count (length a.out.now) a.stream.now
    (sym c.is_ready.ensures.answer ∙ c.if-not-is_ready.true)) in
    record { answer = w.0; written = w.1 }

pub is_stream-good-requires : goal.is_stream-good-requires
is_stream-good-requires c = (ready→ c.args.t (told-ready c)).short

pub returns-then-not-good : goal.returns-then-not-good
returns-then-not-good c =
    let a = c.args in
    let w = declined (unstreamed_with a.t a.count (length a.out.now) a.stream.now) Stream a.out.now
    (unstream-15 a.t a.count (length a.out.now) a.stream.now
    (is-ready (goal.at.returns-then-not-good c).Else-not-is_ready)
    (sym c.is_stream-good.ensures.answer ∙ c.if-not-good.true)) in
    record { answer = w.0; written = w.1 }

pub returns-then-count-a : goal.returns-then-count-a
returns-then-count-a c =
    let a = c.args in
    let w = declined (unstreamed_with a.t a.count (length a.out.now) a.stream.now) TooFewWords a.out.now
    (unstream-12 a.t a.count (length a.out.now) a.stream.now
    (is-ready (goal.at.returns-then-count-a c).Else-not-is_ready)
    (is-good (goal.at.returns-then-count-a c).Else-not-good)
    c.if-count-a.true) in
    record { answer = w.0; written = w.1 }

pub returns-then-out-count : goal.returns-then-out-count
returns-then-out-count c =
    let a = c.args in
    let w = declined (unstreamed_with a.t a.count (length a.out.now) a.stream.now) ShortOutput a.out.now
    (unstream-13 a.t a.count (length a.out.now) a.stream.now
    (is-ready (goal.at.returns-then-out-count c).Else-not-is_ready)
    (is-good (goal.at.returns-then-out-count c).Else-not-good)
    c.if-count-a.false c.if-out-count.true) in
    record { answer = w.0; written = w.1 }

pub of-requires : goal.of-requires
of-requires c = ready→ c.args.t (told-ready (goal.at.of-requires c).Else-not-is_ready)

pub read_all-requires : goal.read_all-requires
read_all-requires c =
    let a = c.args in
    let r = (ready-formed a.t (told-ready (goal.at.read_all-requires c).Else-not-is_ready)).range in
    let g = good-stream→ a.t.q a.count a.stream.now
    (subst T (sym (is-good (goal.at.read_all-requires c).Else-not-good)) tt) in (
      g.few,
      subst (λ q. a.count * q ≤ 8 * length a.stream.now) (sym c.of.ensures.width) g.holds,
      omega (arith, r.m),
      omega (arith, r.a),
      c.if-count-a.false,
      c.if-out-count.false,
    )

pub returns : goal.returns
returns c =
    let a = c.args in
    let xs = a.stream.now in
    let out = a.out.now in
    let n = a.count - a.t.lookahead in
    let w = finished (unstreamed_with a.t a.count (length out) xs)
    (decode (code_in a.t) (unpacked a.t.q a.count xs)) out _ n
    (unstream-done a.t a.count (length out) xs (is-ready (goal.at.returns c).Else-not-is_ready)
    (is-good (goal.at.returns c).Else-not-good) c.if-count-a.false
    c.if-out-count.false)
    (length-unstreamed a.t a.count xs)
    (c.read_all.ensures.written
    ∙ ap₂ (λ t q. map (block (under (rows_of t) a.t.memory a.t.lookahead) (unpacked q a.count xs)) (range n) ++ drop n out)
    c.of.ensures.answer c.of.ensures.width
    ∙ unstreamed-in a.t a.count xs (2 ^ a.t.p) (drop n out) refl) in
    record { answer = w.0; written = w.1 }
