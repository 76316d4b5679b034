-- `stream_pack::unpack` meets its contract: the checks in their order, then the words.
use Rattle.std.proofs.Common.{◌≡◌}
use Rattle.laws.proofs.All.{sym, subst, ◌∙◌, true, T, length}
use Rattle.answer.specs.declared.Refusal.TheVariants.{Parameters, ShortOutput, Stream}
use Rattle.answer.proofs.Answered.{declined, finished}
use Rattle.stream_pack.specs.Streams.{good_width, good_stream, unpacked, unpack_into}
use Rattle.stream_pack.proofs.Streams.{good-stream→, length-unpacked}
use Rattle.stream_pack.proofs.Checks.{width→, unpack-1, unpack-15, unpack-13, unpack-done}
use Rattle.stream_pack.proofs.unpack.Goals.{Else-not-is_stream, Else-not-is_width}
use Rattle.stream_pack.proofs.unpack.Goals as goal

wide : (c : Else-not-is_width) → good_width c.args.q ≡ true
wide c = sym c.is_width.ensures.answer ∙ c.if-not-is_width.false

good : (c : Else-not-is_stream) → let a = c.args in
    good_stream a.q a.count a.bytes.now ≡ true
good c = sym c.is_stream.ensures.answer ∙ c.if-not-is_stream.false

pub returns-then-not-is_width : goal.returns-then-not-is_width
returns-then-not-is_width c =
    let a = c.args in
    let w = declined (unpack_into a.q a.count (length a.out.now) a.bytes.now) Parameters a.out.now
    (unpack-1 a.q a.count (length a.out.now) a.bytes.now
    (sym c.is_width.ensures.answer ∙ c.if-not-is_width.true)) in
    record { answer = w.0; written = w.1 }

pub is_stream-requires : goal.is_stream-requires
is_stream-requires c = width→ c.args.q (wide c)

pub returns-then-not-is_stream : goal.returns-then-not-is_stream
returns-then-not-is_stream c =
    let a = c.args in
    let w = declined (unpack_into a.q a.count (length a.out.now) a.bytes.now) Stream a.out.now
    (unpack-15 a.q a.count (length a.out.now) a.bytes.now
    (wide (goal.at.returns-then-not-is_stream c).Else-not-is_width)
    (sym c.is_stream.ensures.answer ∙ c.if-not-is_stream.true)) in
    record { answer = w.0; written = w.1 }

pub returns-then-out-count : goal.returns-then-out-count
returns-then-out-count c =
    let a = c.args in
    let w = declined (unpack_into a.q a.count (length a.out.now) a.bytes.now) ShortOutput a.out.now
    (unpack-13 a.q a.count (length a.out.now) a.bytes.now (wide (goal.at.returns-then-out-count c).Else-not-is_width)
    (good (goal.at.returns-then-out-count c).Else-not-is_stream)
    c.if-out-count.true) in
    record { answer = w.0; written = w.1 }

pub get_words-requires : goal.get_words-requires
get_words-requires c =
    let a = c.args in
    let g = good-stream→ a.q a.count a.bytes.now (subst T (sym (good (goal.at.get_words-requires c).Else-not-is_stream))
    tt) in
    (width→ a.q (wide (goal.at.get_words-requires c).Else-not-is_width), g.few, g.holds, c.if-out-count.false)

pub returns : goal.returns
returns c =
    let a = c.args in
    let xs = a.bytes.now in
    let w = finished (unpack_into a.q a.count (length a.out.now) xs) (unpacked a.q a.count xs) a.out.now _
    a.count
    (unpack-done a.q a.count (length a.out.now) xs (wide (goal.at.returns c).Else-not-is_width)
    (good (goal.at.returns c).Else-not-is_stream) c.if-out-count.false)
    (sym (length-unpacked a.q a.count xs)) c.get_words.ensures.written in
    record { answer = w.0; written = w.1 }
