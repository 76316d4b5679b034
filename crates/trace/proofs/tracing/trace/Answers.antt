-- `trace` meets its contract: a refusal of the bytes is told, and a job that they hold is traced.
use Rattle.trace.proofs.tracing.trace.Goals as goal

pub trace_held-requires : goal.trace_held-requires
trace_held-requires c = rw c.in-Ok.is at c.requires

pub returns-in-Err : goal.returns-in-Err
returns-in-Err c = record { written = rw c.in-Err.is c.put_refusal_line.ensures.written }

pub returns-in-Ok : goal.returns-in-Ok
returns-in-Ok c = record { written = rw c.in-Ok.is c.trace_held.ensures.written }
