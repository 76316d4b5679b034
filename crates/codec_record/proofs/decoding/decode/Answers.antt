-- The refusal of the record, or what decoding under its table comes to.
use Rattle.laws.proofs.All.{length}
use Rattle.answer.proofs.Answered.{declined, handed}
use Rattle.answer.proofs.Outcomes.{handed_on}
use Rattle.record_check.specs.Parse.{parse}
use Rattle.codec.specs.Answers.{decoded, decode_under}
use Rattle.codec.specs.With.{decoded_with}
use Rattle.codec.proofs.Loaded.{under-bad, decode-read}
use Rattle.codec_record.proofs.decoding.decode.Goals as goal

pub returns-in_err-load : goal.returns-in_err-load
unfolding decode_under
returns-in_err-load c =
    let a = c.args in
    let room = length a.out.now in
    let w = declined (decode_under a.bytes.now room a.words.now) _ a.out.now
    (under-bad (parse a.bytes.now) (λ k. decoded k room a.words.now) _ c.in_err-load.ensures.answer) in
    rw (handed_on _ _ c.from_residual.ensures.1) (record { answer = w.0; written = w.1 })

pub returns : goal.returns
unfolding decode_under
returns c =
    let a = c.args in
    let room = length a.out.now in
    let t = c.in_ok-load.ensures in
    let w = handed (decoded_with _ room a.words.now) (decode_under a.bytes.now room a.words.now) _ a.out.now _
    (decode-read (parse a.bytes.now) _ t.answer t.kept room a.words.now)
    c.decode_with.ensures.answer c.decode_with.ensures.written in
    record { answer = w.0; written = w.1 }
