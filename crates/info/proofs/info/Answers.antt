-- `info` meets its contract: a refused record ends the call, and the numbers of an accepted one fill the output.
use Rattle.laws.proofs.All.{sym, length}
use Rattle.answer.specs.Outcomes.{fitting}
use Rattle.answer.proofs.Answered.{ends-onward, goes-onward}
use Rattle.answer.proofs.Outcomes.{handed_on}
use Rattle.record_check.specs.Parse.{parse}
use Rattle.info.specs.Info.{numbers_of, info_under}
use Rattle.info.proofs.info.Goals as goal

pub returns-in_err-load : goal.returns-in_err-load
unfolding info_under
returns-in_err-load c =
    let a = c.args in
    let w = ends-onward (parse a.bytes.now) (λ c. fitting (length a.out.now) (numbers_of c)) _ a.out.now
    (sym c.in_err-load.ensures.answer) in
    rw (handed_on _ _ c.from_residual.ensures.1) (record { answer = w.0; written = w.1 })

pub returns : goal.returns
unfolding info_under
returns c =
    let a = c.args in
    let w = goes-onward (parse a.bytes.now) (λ c. fitting (length a.out.now) (numbers_of c)) _ _ a.out.now _
    (sym c.in_ok-load.ensures.answer) c.tell_numbers.ensures.answer c.tell_numbers.ensures.written in
    record { answer = w.0; written = w.1 }
