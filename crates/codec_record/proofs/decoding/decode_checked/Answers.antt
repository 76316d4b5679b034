-- The refusal of the record up to 9 and 10, or what decoding under its table comes to.
use Rattle.laws.proofs.All.{length}
use Rattle.answer.proofs.Answered.{declined, handed}
use Rattle.answer.proofs.Outcomes.{handed_on}
use Rattle.record.specs.Checks.{fields_checked}
use Rattle.codec.specs.Answers.{decoded, decode_checked}
use Rattle.codec.specs.With.{decoded_with}
use Rattle.codec.proofs.Loaded.{under-bad, decode-read}
use Rattle.codec_record.proofs.decoding.decode_checked.Goals as goal

pub returns-in_err-read : goal.returns-in_err-read
unfolding decode_checked
returns-in_err-read c =
    let a = c.args in
    let room = length a.out.now in
    let w = declined (decode_checked a.bytes.now room a.words.now) _ a.out.now
    (under-bad (fields_checked a.bytes.now) (λ k. decoded k room a.words.now) _ c.in_err-read.ensures.answer) in
    rw (handed_on _ _ c.from_residual.ensures.1) (record { answer = w.0; written = w.1 })

pub returns : goal.returns
unfolding decode_checked
returns c =
    let a = c.args in
    let room = length a.out.now in
    let t = c.in_ok-read.ensures in
    let w = handed (decoded_with _ room a.words.now) (decode_checked a.bytes.now room a.words.now) _ a.out.now _
    (decode-read (fields_checked a.bytes.now) _ t.answer t.kept room a.words.now)
    c.decode_with.ensures.answer c.decode_with.ensures.written in
    record { answer = w.0; written = w.1 }
