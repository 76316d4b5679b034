-- `read_listed` meets its contract: a job of five bytes is read as any other.
use Rattle.laws.proofs.All.{sym, ◌∙◌, eqb, eq-eqb, ne_eqb, length}
use Rattle.answer.specs.declared.Refusal.TheVariants.{Length}
use Rattle.answer.proofs.Outcomes.{unless-false}
use Rattle.compile_job.specs.Jobs.{read_run_length, read_listed}
use Rattle.compile_job.proofs.JobSteps.{unless-yes}
use Rattle.compile_job.proofs.reading.read_listed.Goals as goal

pub returns-then-bytes-ne5-clause-answer : goal.returns-then-bytes-ne5-clause-answer
unfolding read_listed
returns-then-bytes-ne5-clause-answer c =
    let xs = c.args.bytes.now in
    sym (unless-false Length (eqb (length xs) 5) (read_run_length xs) (ne_eqb _ _ c.if-bytes-ne5.true))

pub returns-clause-answer : goal.returns-clause-answer
unfolding read_listed
returns-clause-answer c =
    let xs = c.args.bytes.now in
    c.read_run_length.ensures.answer
    ∙ sym (unless-yes Length (eqb (length xs) 5) (read_run_length xs) (eq-eqb _ _ c.if-bytes-ne5.false))
