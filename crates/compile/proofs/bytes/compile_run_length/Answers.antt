-- `compile_run_length` meets its contract: it compiles what the run-length job is read as.
use Rattle.laws.proofs.All.{sym, length}
use Rattle.answer.proofs.Answered.{ends-onward, goes-onward}
use Rattle.answer.proofs.Outcomes.{handed_on}
use Rattle.compile_job.specs.Jobs.{read_run_length}
use Rattle.compile.specs.Compile.{compile_into, compile_run_length}
use Rattle.compile.proofs.bytes.compile_run_length.Goals as goal

pub returns-in_err-read_run_length : goal.returns-in_err-read_run_length
unfolding compile_run_length
returns-in_err-read_run_length c =
    let a = c.args in
    let w = ends-onward (read_run_length a.job.now) (compile_into (length a.out.now)) _ a.out.now
    (sym c.in_err-read_run_length.ensures.answer) in
    rw (handed_on _ _ c.from_residual.ensures.1) (record { answer = w.0; written = w.1 })

pub returns : goal.returns
unfolding compile_run_length
returns c =
    let a = c.args in
    let w = goes-onward (read_run_length a.job.now) (compile_into (length a.out.now)) _ _ a.out.now _
    (sym c.in_ok-read_run_length.ensures.answer) c.compile_into.ensures.answer c.compile_into.ensures.written in
    record { answer = w.0; written = w.1 }
