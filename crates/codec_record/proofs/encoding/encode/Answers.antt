-- The refusal of the record, or what encoding under its table comes to.
use Rattle.laws.proofs.All.{length}
use Rattle.answer.proofs.Answered.{declined, handed}
use Rattle.answer.proofs.Outcomes.{handed_on}
use Rattle.record_check.specs.Parse.{parse}
use Rattle.codec.specs.Answers.{encoded, encode_under}
use Rattle.codec.specs.With.{encoded_with}
use Rattle.codec.proofs.Loaded.{under-bad, encode-read}
use Rattle.codec_record.proofs.encoding.encode.Goals as goal

pub returns-in_err-load : goal.returns-in_err-load
unfolding encode_under
returns-in_err-load c =
    let a = c.args in
    let room = length a.out.now in
    let w = declined (encode_under a.bytes.now room a.blocks.now) _ a.out.now
    (under-bad (parse a.bytes.now) (λ k. encoded k room a.blocks.now) _ c.in_err-load.ensures.answer) in
    rw (handed_on _ _ c.from_residual.ensures.1) (record { answer = w.0; written = w.1 })

pub returns : goal.returns
unfolding encode_under
returns c =
    let a = c.args in
    let room = length a.out.now in
    let t = c.in_ok-load.ensures in
    let w = handed (encoded_with _ room a.blocks.now) (encode_under a.bytes.now room a.blocks.now) _ a.out.now _
    (encode-read (parse a.bytes.now) _ t.answer t.kept room a.blocks.now)
    c.encode_with.ensures.answer c.encode_with.ensures.written in
    record { answer = w.0; written = w.1 }
