-- `trace_job` meets its contract: what is traced is the job that the bytes hold.
use Rattle.laws.proofs.All.{ap}
use Rattle.text.proofs.Adding.{added-same}
use Rattle.trace.specs.Traced.{tracing, traced_job}
use Rattle.trace.proofs.tracing.trace_job.Goals as goal

pub returns : goal.returns
unfolding traced_job
returns c = record { written = added-same (ap tracing c.hold_job.ensures.answer) c.trace.ensures.written }
