-- The checks in their order, then the count, part by part.
use Rattle.std.proofs.Common.{◌≡◌}
use Rattle.laws.proofs.All.{sym, ap, subst, ◌∙◌, true, T}
use Rattle.answer.specs.Outcomes.{answer_of}
use Rattle.table.specs.Value.{ready}
use Rattle.table.proofs.ReadyTables.{ready→}
use Rattle.stream_pack.specs.Streams.{unpacked, good_stream}
use Rattle.codec_verify.specs.Counting.{come_back}
use Rattle.stream_verify.proofs.Checked.{stream-7, stream-15, stream-12, stream-done, streamed}
use Rattle.stream_verify.proofs.verify_stream_with.Goals.{Else-not-is_ready, Else-not-is_stream}
use Rattle.stream_verify.proofs.verify_stream_with.Goals as goal

is-ready : (c : Else-not-is_ready) → ready c.args.t ≡ true
is-ready c = sym c.is_ready.ensures.answer ∙ c.if-not-is_ready.false

told-ready : (c : Else-not-is_ready) → T (ready c.args.t)
told-ready c = subst T (sym (is-ready c)) tt

is-good : (c : Else-not-is_stream) → let a = c.args in
    good_stream a.t.q a.count a.stream.now ≡ true
is-good c = sym c.is_stream.ensures.answer ∙ c.if-not-is_stream.false

pub returns-then-not-is_ready : goal.returns-then-not-is_ready
returns-then-not-is_ready c =
    let a = c.args in
    record {
      answer = sym (ap answer_of (stream-7 a.t a.count a.stream.now
          (sym c.is_ready.ensures.answer ∙ c.if-not-is_ready.true)));
    }

pub is_stream-requires : goal.is_stream-requires
is_stream-requires c = (ready→ c.args.t (told-ready c)).short

pub returns-then-not-is_stream : goal.returns-then-not-is_stream
returns-then-not-is_stream c =
    let a = c.args in
    record {
      answer = sym (ap answer_of (stream-15 a.t a.count a.stream.now
          (is-ready (goal.at.returns-then-not-is_stream c).Else-not-is_ready)
          (sym c.is_stream.ensures.answer ∙ c.if-not-is_stream.true)));
    }

pub returns-then-count-t : goal.returns-then-count-t
returns-then-count-t c =
    let a = c.args in
    record {
      answer = sym (ap answer_of (stream-12 a.t a.count a.stream.now
          (is-ready (goal.at.returns-then-count-t c).Else-not-is_ready)
          (is-good (goal.at.returns-then-count-t c).Else-not-is_stream) c.if-count-t.true));
    }

pub of-requires : goal.of-requires
of-requires c = ready→ c.args.t (told-ready (goal.at.of-requires c).Else-not-is_ready)

pub count_stream-requires : goal.count_stream-requires
count_stream-requires c =
    let a = c.args in
    streamed a.t (told-ready (goal.at.count_stream-requires c).Else-not-is_ready) a.count a.stream.now
    (subst T (sym (is-good (goal.at.count_stream-requires c).Else-not-is_stream)) tt) c.if-count-t.false
    c.sizes_of.result c.sizes_of.ensures.answer

pub returns : goal.returns
returns c =
    let a = c.args in
    record {
      answer = stream-done a.t a.count a.stream.now (is-ready (goal.at.returns c).Else-not-is_ready)
          (is-good (goal.at.returns c).Else-not-is_stream) c.if-count-t.false c.sizes_of.result
          c.count_stream.result c.sizes_of.ensures.answer
          (c.count_stream.ensures.answer
          ∙ ap (λ s. come_back s c.sizes_of.result (unpacked c.sizes_of.result.q a.count a.stream.now))
          c.of.ensures.answer);
    }
