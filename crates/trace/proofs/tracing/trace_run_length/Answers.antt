-- `trace_run_length` meets its contract: what is traced is the run-length job that the bytes hold.
use Rattle.laws.proofs.All.{ap}
use Rattle.text.proofs.Adding.{added-same}
use Rattle.trace.specs.Traced.{tracing, traced_run_length}
use Rattle.trace.proofs.tracing.trace_run_length.Goals as goal

pub returns : goal.returns
unfolding traced_run_length
returns c = record { written = added-same (ap tracing c.hold_run_length.ensures.answer) c.trace.ensures.written }
