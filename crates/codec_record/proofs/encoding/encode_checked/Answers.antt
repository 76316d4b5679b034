-- The refusal of the record up to 9 and 10, or what encoding under its table comes to.
use Rattle.laws.proofs.All.{length}
use Rattle.answer.proofs.Answered.{declined, handed}
use Rattle.answer.proofs.Outcomes.{handed_on}
use Rattle.record.specs.Checks.{fields_checked}
use Rattle.codec.specs.Answers.{encoded, encode_checked}
use Rattle.codec.specs.With.{encoded_with}
use Rattle.codec.proofs.Loaded.{under-bad, encode-read}
use Rattle.codec_record.proofs.encoding.encode_checked.Goals as goal

pub returns-in_err-read : goal.returns-in_err-read
unfolding encode_checked
returns-in_err-read c =
    let a = c.args in
    let room = length a.out.now in
    let w = declined (encode_checked a.bytes.now room a.blocks.now) _ a.out.now
    (under-bad (fields_checked a.bytes.now) (λ k. encoded k room a.blocks.now) _ c.in_err-read.ensures.answer) in
    rw (handed_on _ _ c.from_residual.ensures.1) (record { answer = w.0; written = w.1 })

pub returns : goal.returns
unfolding encode_checked
returns c =
    let a = c.args in
    let room = length a.out.now in
    let t = c.in_ok-read.ensures in
    let w = handed (encoded_with _ room a.blocks.now) (encode_checked a.bytes.now room a.blocks.now) _ a.out.now _
    (encode-read (fields_checked a.bytes.now) _ t.answer t.kept room a.blocks.now)
    c.encode_with.ensures.answer c.encode_with.ensures.written in
    record { answer = w.0; written = w.1 }
