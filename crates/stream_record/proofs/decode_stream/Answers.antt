-- The refusal of the record, or what decoding from a stream under its table comes to.
use Rattle.laws.proofs.All.{length}
use Rattle.answer.proofs.Answered.{declined, handed}
use Rattle.answer.proofs.Outcomes.{handed_on}
use Rattle.record_check.specs.Parse.{parse}
use Rattle.codec.proofs.Loaded.{under-bad, under-good}
use Rattle.stream.specs.Recorded.{unstreamed, decode_stream, unstreamed_with}
use Rattle.stream_record.proofs.decode_stream.Goals as goal

pub returns-in_err-load : goal.returns-in_err-load
unfolding decode_stream
returns-in_err-load c =
    let a = c.args in
    let room = length a.out.now in
    let w = declined (decode_stream a.bytes.now a.count room a.stream.now) _ a.out.now
    (under-bad (parse a.bytes.now) (λ k. unstreamed k a.count room a.stream.now) _ c.in_err-load.ensures.answer) in
    rw (handed_on _ _ c.from_residual.ensures.1) (record { answer = w.0; written = w.1 })

pub returns : goal.returns
unfolding decode_stream unstreamed_with
returns c =
    let a = c.args in
    let room = length a.out.now in
    let t = c.in_ok-load.ensures in
    let w = handed (unstreamed_with _ a.count room a.stream.now) (decode_stream a.bytes.now a.count room a.stream.now) _ a.out.now _
    (under-good (parse a.bytes.now) _ t.answer t.kept (λ k. unstreamed k a.count room a.stream.now))
    c.decode_stream_with.ensures.answer c.decode_stream_with.ensures.written in
    record { answer = w.0; written = w.1 }
