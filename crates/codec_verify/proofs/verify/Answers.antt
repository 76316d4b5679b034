-- The refusal of the record, or what verifying under its table comes to.
use Rattle.laws.proofs.All.{sym, ap, ◌∙◌}
use Rattle.answer.specs.Outcomes.{answer_of}
use Rattle.answer.proofs.Outcomes.{handed_on}
use Rattle.record_check.specs.Parse.{parse}
use Rattle.codec.proofs.Loaded.{under-bad}
use Rattle.codec_verify.specs.Verify.{verified, verify_under}
use Rattle.codec_verify.proofs.Checked.{verify-read}
use Rattle.codec_verify.proofs.verify.Goals as goal

pub returns-in_err-load : goal.returns-in_err-load
unfolding verify_under
returns-in_err-load c =
    let a = c.args in
    rw (handed_on _ _ c.from_residual.ensures.1)
    (record {
      answer = sym (ap answer_of
          (under-bad (parse a.bytes.now) (λ k. verified k a.words.now) _ c.in_err-load.ensures.answer));
    })

pub returns : goal.returns
unfolding verify_under
returns c =
    let a = c.args in
    let t = c.in_ok-load.ensures in
    record {
      answer = c.verify_with.ensures.answer
          ∙ ap answer_of (verify-read (parse a.bytes.now) _ t.answer t.kept a.words.now);
    }
