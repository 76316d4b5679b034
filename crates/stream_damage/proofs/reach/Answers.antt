-- The refusal of the record, or what is quoted under its table.
use Rattle.laws.proofs.All.{sym, ap, ◌∙◌}
use Rattle.answer.specs.Outcomes.{onward}
use Rattle.answer.proofs.Outcomes.{handed_on}
use Rattle.record_check.specs.Parse.{parse}
use Rattle.codec.proofs.Loaded.{under-bad}
use Rattle.stream_damage.specs.BitReach.{reach_in, reach_under, reach_answer}
use Rattle.stream_damage.proofs.reach.Goals as goal

pub returns-in_err-load : goal.returns-in_err-load
unfolding reach_under
returns-in_err-load c =
    let a = c.args in
    rw (handed_on _ _ c.from_residual.ensures.1)
    (record {
      answer = sym (ap reach_answer
          (under-bad (parse a.bytes.now) (λ k. reach_in k a.damage) _ c.in_err-load.ensures.answer));
    })

pub returns : goal.returns
unfolding reach_under
returns c =
    let a = c.args in
    record {
      answer = c.quote.ensures.answer
          ∙ ap (λ o. reach_answer (onward o (λ k. reach_in k a.damage))) c.in_ok-load.ensures.answer;
    }
