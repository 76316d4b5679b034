-- `compile_into` meets its contract: a refusal ends the call, and a table that was compiled goes on.
use Rattle.laws.proofs.All.{sym, length}
use Rattle.answer.proofs.Answered.{ends-onward}
use Rattle.answer.proofs.Outcomes.{handed_on}
use Rattle.record.specs.Parse.{pack_into}
use Rattle.compile.specs.Compile.{compile}
use Rattle.compile_job.specs.JobValues.{job_in}
use Rattle.compile.proofs.Accepted.{compiled-ready}
use Rattle.compile.proofs.Onward.{goes-packed}
use Rattle.compile.proofs.bytes.compile_into.Goals as goal

pub compile-requires : goal.compile-requires
compile-requires c = (c.requires, c.begin.ensures.answer)

pub returns-in_err-compile : goal.returns-in_err-compile
returns-in_err-compile c =
    let a = c.args in
    let w = ends-onward (compile (job_in a.j)) (λ c. pack_into c (length a.out.now)) _ a.out.now
    (sym c.in_err-compile.ensures.answer) in
    rw (handed_on _ _ c.from_residual.ensures.1) (record { answer = w.0; written = w.1 })

pub returns : goal.returns
returns c =
    let a = c.args in
    let j = job_in a.j in
    let e = sym c.in_ok-compile.ensures.answer in
    let w = goes-packed _ (compile j) a.out.now _ _ (compiled-ready j c.requires.allowed _ e) e
    c.write.ensures.answer c.write.ensures.written in
    record { answer = w.0; written = w.1 }

pub begin-requires : goal.begin-requires
begin-requires c = c.requires
