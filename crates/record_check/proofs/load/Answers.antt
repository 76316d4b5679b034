-- `load` meets its contract: the refusal of a field, or what the two checks of the table come to.
use Rattle.laws.proofs.All.{sym, ◌∙◌}
use Rattle.answer.proofs.Outcomes.{handed_on}
use Rattle.record_check.proofs.Follow.{parse-read, parse-bad}
use Rattle.record_check.proofs.load.Goals as goal

pub returns-in_err-read : goal.returns-in_err-read
returns-in_err-read c =
    rw (handed_on _ _ c.from_residual.ensures.1)
    (record { answer = sym (parse-bad c.args.bytes.now _ c.in_err-read.ensures.answer); kept = tt })

pub returns : goal.returns
returns c =
    record {
      answer = c.judge.ensures.answer ∙ sym (parse-read c.args.bytes.now _ c.in_ok-read.ensures.answer);
      kept = c.judge.ensures.kept;
    }
