-- `weights_of` meets its contract: those that the job brings, or the greatest, are in use.
use Rattle.laws.proofs.All.{◌∙◌, arith}
use Rattle.compile_job.specs.JobValues.{job_in}
use Rattle.compile.proofs.Compile.{ways-pos}
use Rattle.compile.proofs.CompileSteps.{held-weights, held-computed, held-brought, held_low}
use Rattle.compile.proofs.compiling.weights_of.Goals as goal

pub returns-then-j : goal.returns-then-j
returns-then-j c =
    let j = c.args.j in
    record { answer = (held-brought j c.requires.0 c.if-j.true, held_low j c.requires.0 c.if-j.true) }

pub state_weights-requires : goal.state_weights-requires
state_weights-requires c =
    let j = c.args.j in
    (c.requires.1, omega (arith, ways-pos (job_in j), c.requires.3), c.requires.0.allowed.cap₂)

pub returns : goal.returns
returns c =
    let j = c.args.j in
    record {
      answer = (
        held-weights j c.requires.0 _ _ _ c.requires.2 c.requires.3 c.state_weights.ensures.answer.0
            ∙ held-computed j c.requires.0 c.if-j.false,
        λ i h. omega (arith, c.state_weights.ensures.answer.1 i h, c.requires.0.allowed.cap₂),
      );
    }
