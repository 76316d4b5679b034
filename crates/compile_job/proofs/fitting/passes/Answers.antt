-- `passes` meets its contract: a job that brings no weights passes, and others where the test of their weights does.
use Rattle.std.proofs.Common.{if◌then◌else◌}
use Rattle.laws.proofs.All.{sym, ap, ap₂, ◌∙◌, arith, pow_pos, take}
use Rattle.compile_graph.specs.Weights.{passing}
use Rattle.compile_weights.proofs.Powers.{held-powers, held-tabled}
use Rattle.compile_job.specs.Jobs.{computed, brought, fit}
use Rattle.compile_job.specs.JobValues.{job_in}
use Rattle.compile_job.proofs.Weights.{held-bounds, held-few}
use Rattle.compile_job.proofs.fitting.passes.Goals as goal

pub returns-then-not-j : goal.returns-then-not-j
returns-then-not-j c = record { answer = rw c.if-not-j.true }

pub weights_pass-requires : goal.weights_pass-requires
weights_pass-requires c =
    let j = c.args.j in
    let (_, q, cap) = held-bounds (job_in j) c.requires in (
      held-powers j.constraint j.q (held-few j c.requires) q c.requires.lawful.well _ _
          c.power_codes-power.ensures.answer c.power-words.ensures.answer,
      omega (arith, pow_pos j.p, c.ways.ensures.answer.0),
      cap,
    )

pub returns : goal.returns
returns c =
    let j = c.args.j in
    let (_, q, _) = held-bounds (job_in j) c.requires in
    let v = take j.constraint.states j.weight in
    record {
      answer = c.weights_pass.ensures.answer
          ∙ ap₂ (λ n g. passing n j.cap g v) c.ways.ensures.answer.0
          (held-tabled j.constraint j.q (held-few j c.requires) q c.requires.lawful.well _ _
          c.power_codes-power.ensures.answer c.power-words.ensures.answer)
          ∙ sym (ap (λ b. fit (job_in j) (if b then brought v else computed)) c.if-not-j.false);
    }

pub power_codes-power-requires : goal.power_codes-power-requires
power_codes-power-requires c = (held-few c.args.j c.requires, (held-bounds (job_in c.args.j) c.requires).1)

pub power-words-requires : goal.power-words-requires
power-words-requires c = omega (arith, (held-bounds (job_in c.args.j) c.requires).1)

pub ways-requires : goal.ways-requires
ways-requires c = (held-bounds (job_in c.args.j) c.requires).0
