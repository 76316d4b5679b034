-- `read_job` meets its contract: what the bytes hold, with its weights checked.
use Rattle.laws.proofs.All.{ap, ◌∙◌}
use Rattle.answer.specs.Outcomes.{onward}
use Rattle.answer.proofs.Outcomes.{handed_on}
use Rattle.compile_job.specs.Jobs.{fitted, read_job}
use Rattle.compile_job.proofs.reading.read_job.Goals as goal

pub returns-in_err-hold_job-clause-answer : goal.returns-in_err-hold_job-clause-answer
unfolding read_job
returns-in_err-hold_job-clause-answer c =
    rw (handed_on _ _ c.from_residual.ensures.1) (ap (λ o. onward o fitted) c.in_err-hold_job.ensures.answer)

pub returns-clause-answer : goal.returns-clause-answer
unfolding read_job
returns-clause-answer c =
    c.fit_read.ensures.answer ∙ ap (λ o. onward o fitted) c.in_ok-hold_job.ensures.answer
