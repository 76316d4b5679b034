-- The refusal of the record, or what encoding to a stream under its table comes to.
use Rattle.laws.proofs.All.{length}
use Rattle.answer.proofs.Answered.{declined, handed}
use Rattle.answer.proofs.Outcomes.{handed_on}
use Rattle.record_check.specs.Parse.{parse}
use Rattle.codec.proofs.Loaded.{under-bad, under-good}
use Rattle.stream.specs.Recorded.{streamed, encode_stream, streamed_with}
use Rattle.stream_record.proofs.encode_stream.Goals as goal

pub returns-in_err-load : goal.returns-in_err-load
unfolding encode_stream
returns-in_err-load c =
    let a = c.args in
    let room = length a.out.now in
    let w = declined (encode_stream a.bytes.now room a.blocks.now) _ a.out.now
    (under-bad (parse a.bytes.now) (λ k. streamed k room a.blocks.now) _ c.in_err-load.ensures.answer) in
    rw (handed_on _ _ c.from_residual.ensures.1) (record { answer = w.0; written = w.1 })

pub returns : goal.returns
unfolding encode_stream streamed_with
returns c =
    let a = c.args in
    let room = length a.out.now in
    let t = c.in_ok-load.ensures in
    let w = handed (streamed_with _ room a.blocks.now) (encode_stream a.bytes.now room a.blocks.now) _ a.out.now _
    (under-good (parse a.bytes.now) _ t.answer t.kept (λ k. streamed k room a.blocks.now))
    c.encode_stream_with.ensures.answer c.encode_stream_with.ensures.written in
    record { answer = w.0; written = w.1 }
