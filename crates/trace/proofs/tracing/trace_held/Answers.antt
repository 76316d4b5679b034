-- `trace_held` meets its contract: a job whose weights pass is traced, and of others it is told why they fail.
use Rattle.std.proofs.Common.{◌≡◌}
use Rattle.laws.proofs.All.{sym, ◌∙◌, true}
use Rattle.text.proofs.Adding.{added-same, added_more}
use Rattle.compile_job.specs.Jobs.{fit}
use Rattle.compile_job.specs.JobValues.{job_in, JobReady}
use Rattle.trace.specs.Traced.{traced}
use Rattle.trace.proofs.FailedJobs.{held-ready, passed-text, failed-text}
use Rattle.trace.proofs.tracing.trace_held.Goals.{Then-passes}
use Rattle.trace.proofs.tracing.trace_held.Goals as goal

-- the weights pass
fits : (c : Then-passes) → let j = job_in c.args.j in fit j j.choice ≡ true
fits c = sym c.passes.ensures.answer ∙ c.if-passes.true

ready : (c : Then-passes) → JobReady c.args.j
ready c = held-ready c.args.j c.requires (fits c)

pub returns-then-passes : goal.returns-then-passes
unfolding traced
returns-then-passes c =
    record {
      written = added-same (passed-text (job_in c.args.j) (fits (goal.at.returns-then-passes c).Then-passes))
          (rw (← c.compile.ensures.answer) (added_more c.put_stages-end.ensures.written c.put_ending.ensures.written));
    }

pub returns : goal.returns
returns c =
    let j = job_in c.args.j in
    record {
      written = added-same (failed-text j (sym c.passes.ensures.answer ∙ c.if-passes.false))
          c.put_failing.ensures.written;
    }

pub ways-requires : goal.ways-requires
ways-requires c = (ready (goal.at.ways-requires c).Then-passes).allowed.p₂

pub put_stages-end-requires : goal.put_stages-end-requires
put_stages-end-requires c = (ready (goal.at.put_stages-end-requires c).Then-passes, c.ways.ensures.answer.0)

pub begin-requires : goal.begin-requires
begin-requires c = ready (goal.at.begin-requires c).Then-passes

pub compile-requires : goal.compile-requires
compile-requires c = (ready (goal.at.compile-requires c).Then-passes, c.begin.ensures.answer)

pub put_failing-requires : goal.put_failing-requires
put_failing-requires c = (c.requires, sym c.passes.ensures.answer ∙ c.if-passes.false)
