-- The refusal of the record, or what verifying under its table comes to.
use Rattle.laws.proofs.All.{sym, ap, ◌∙◌}
use Rattle.answer.specs.Outcomes.{answer_of}
use Rattle.answer.proofs.Outcomes.{handed_on}
use Rattle.record_check.specs.Parse.{parse}
use Rattle.codec.proofs.Loaded.{under-bad}
use Rattle.codec_verify.specs.Verify.{verified_stream, verify_stream}
use Rattle.stream_verify.proofs.Checked.{stream-read}
use Rattle.stream_verify.proofs.verify_stream.Goals as goal

pub returns-in_err-load : goal.returns-in_err-load
unfolding verify_stream
returns-in_err-load c =
    let a = c.args in
    rw (handed_on _ _ c.from_residual.ensures.1)
    (record {
      answer = sym (ap answer_of
          (under-bad (parse a.bytes.now) (λ k. verified_stream k a.count a.stream.now) _ c.in_err-load.ensures.answer));
    })

pub returns : goal.returns
unfolding verify_stream
returns c =
    let a = c.args in
    let t = c.in_ok-load.ensures in
    record {
      answer = c.verify_stream_with.ensures.answer
          ∙ ap answer_of (stream-read (parse a.bytes.now) _ t.answer t.kept a.count a.stream.now);
    }
