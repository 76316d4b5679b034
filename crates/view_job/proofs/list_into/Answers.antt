-- `list_into` meets its contract: a refusal ends the call, and a table that was compiled goes on.
use Rattle.laws.proofs.All.{sym, length}
use Rattle.answer.specs.Outcomes.{fitting}
use Rattle.answer.proofs.Answered.{ends-onward, goes-onward}
use Rattle.answer.proofs.Outcomes.{handed_on}
use Rattle.view_listing.specs.Listing.{listing}
use Rattle.compile.specs.Compile.{compile}
use Rattle.compile_job.specs.JobValues.{job_in}
use Rattle.view_job.proofs.list_into.Goals as goal

pub compile-requires : goal.compile-requires
compile-requires c = (c.requires, c.begin.ensures.answer)

pub list-requires : goal.list-requires
list-requires c = c.in_ok-compile.ensures.kept.ready

pub returns-in_err-compile : goal.returns-in_err-compile
returns-in_err-compile c =
    let a = c.args in
    let w = ends-onward (compile (job_in a.j)) (λ c. fitting (length a.out.now) (listing c)) _ a.out.now
    (sym c.in_err-compile.ensures.answer) in
    rw (handed_on _ _ c.from_residual.ensures.1) (record { answer = w.0; written = w.1 })

pub returns : goal.returns
returns c =
    let a = c.args in
    let w = goes-onward (compile (job_in a.j)) (λ c. fitting (length a.out.now) (listing c)) _ _ a.out.now _
    (sym c.in_ok-compile.ensures.answer) c.list.ensures.answer c.list.ensures.written in
    record { answer = w.0; written = w.1 }

pub begin-requires : goal.begin-requires
begin-requires c = c.requires
