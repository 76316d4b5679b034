-- `with_tail` meets its contract: a refused record ends the call, and an accepted one is written anew.
use Rattle.laws.proofs.All.{sym, length}
use Rattle.answer.proofs.Answered.{ends-onward, goes-onward}
use Rattle.answer.proofs.Outcomes.{handed_on}
use Rattle.record_check.specs.Parse.{parse}
use Rattle.record_tail.specs.Closing.{closed, closed_with}
use Rattle.record_tail.proofs.with_tail.Goals as goal

pub returns-in_err-load : goal.returns-in_err-load
unfolding closed_with
returns-in_err-load c =
    let a = c.args in
    let w = ends-onward (parse a.bytes.now) (λ c. closed c a.datum (length a.out.now)) _ a.out.now
    (sym c.in_err-load.ensures.answer) in
    rw (handed_on _ _ c.from_residual.ensures.1) (record { answer = w.0; written = w.1 })

pub returns : goal.returns
unfolding closed_with
returns c =
    let a = c.args in
    let w = goes-onward (parse a.bytes.now) (λ c. closed c a.datum (length a.out.now)) _ _ a.out.now _
    (sym c.in_ok-load.ensures.answer) c.close.ensures.answer c.close.ensures.written in
    record { answer = w.0; written = w.1 }
