-- `list_run_length` meets its contract: a refusal of the bytes ends the call, and a job that was read goes on.
use Rattle.laws.proofs.All.{sym, length}
use Rattle.answer.proofs.Answered.{ends-onward, goes-onward}
use Rattle.answer.proofs.Outcomes.{handed_on}
use Rattle.compile_job.specs.Jobs.{read_listed}
use Rattle.view_job.specs.Listings.{listed_into}
use Rattle.view_job.proofs.Onward.{listed-so}
use Rattle.view_job.proofs.list_run_length.Goals as goal

pub returns-in_err-read_listed : goal.returns-in_err-read_listed
returns-in_err-read_listed c =
    let a = c.args in
    let room = length a.out.now in
    let w = listed-so a.job.now room a.out.now _ _
    (ends-onward (read_listed a.job.now) (listed_into room) _ a.out.now (sym c.in_err-read_listed.ensures.answer)) in
    rw (handed_on _ _ c.from_residual.ensures.1) (record { answer = w.0; written = w.1 })

pub returns : goal.returns
returns c =
    let a = c.args in
    let room = length a.out.now in
    let w = listed-so a.job.now room a.out.now _ _
    (goes-onward (read_listed a.job.now) (listed_into room) _ _ a.out.now _ (sym c.in_ok-read_listed.ensures.answer)
    c.list_into.ensures.answer c.list_into.ensures.written) in
    record { answer = w.0; written = w.1 }
