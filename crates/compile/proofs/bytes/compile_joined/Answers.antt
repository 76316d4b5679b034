-- `compile_joined` meets its contract: it compiles what the job with two constraints is read as.
use Rattle.laws.proofs.All.{sym, length}
use Rattle.answer.proofs.Answered.{ends-onward, goes-onward}
use Rattle.answer.proofs.Outcomes.{handed_on}
use Rattle.compile_job.specs.Jobs.{read_joined}
use Rattle.compile.specs.Compile.{compile_into, compile_joined}
use Rattle.compile.proofs.bytes.compile_joined.Goals as goal

pub returns-in_err-read_joined : goal.returns-in_err-read_joined
unfolding compile_joined
returns-in_err-read_joined c =
    let a = c.args in
    let w = ends-onward (read_joined a.job.now) (compile_into (length a.out.now)) _ a.out.now
    (sym c.in_err-read_joined.ensures.answer) in
    rw (handed_on _ _ c.from_residual.ensures.1) (record { answer = w.0; written = w.1 })

pub returns : goal.returns
unfolding compile_joined
returns c =
    let a = c.args in
    let w = goes-onward (read_joined a.job.now) (compile_into (length a.out.now)) _ _ a.out.now _
    (sym c.in_ok-read_joined.ensures.answer) c.compile_into.ensures.answer c.compile_into.ensures.written in
    record { answer = w.0; written = w.1 }
