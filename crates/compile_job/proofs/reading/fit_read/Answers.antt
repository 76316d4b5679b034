-- `fit_read` meets its contract: a job whose weights pass is allowed.
use Rattle.laws.proofs.All.{sym, ap, subst, ◌∙◌, T, not, not-false}
use Rattle.compile_job.specs.JobValues.{job_in}
use Rattle.compile_job.proofs.Fronts.{allowed_of}
use Rattle.compile_job.proofs.JobSteps.{job-ready}
use Rattle.compile_job.proofs.reading.fit_read.Goals as goal

pub returns-clause-kept : goal.returns-clause-kept
returns-clause-kept c =
    let j = c.args.j in
    job-ready j (allowed_of (job_in j) c.requires
    (subst T (sym (sym c.passes.ensures.answer ∙ not-false c.passes.result (ap not c.if-not-passes.false))) tt))
