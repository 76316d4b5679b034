-- `put_failing` meets its contract: the power table holds the words that the constraint allows, so the lines are the
-- job's.
use Rattle.std.proofs.Common.{◌≡◌}
use Rattle.laws.proofs.All.{ap₂, ◌∙◌, arith, pow_pos}
use Rattle.compile_graph.specs.Weights.{passing}
use Rattle.compile_weights.specs.PowerTable.{tabled, Powers}
use Rattle.compile_job.specs.JobValues.{job_in}
use Rattle.compile_job.proofs.Weights.{held-bounds, held-few}
use Rattle.compile.specs.Compile.{graph_of}
use Rattle.trace.proofs.FailedJobs.{held-words, held-graph, own, failing-not, failing-told}
use Rattle.trace.proofs.failures.put_failing.Goals.{After-power-words}
use Rattle.trace.proofs.failures.put_failing.Goals as goal

-- the words of the constraint
words : (c : After-power-words) → let j = c.args.j in
    let P = c.power_codes-power.result in
    Powers P c.power-words.result j.constraint.states
    × (tabled P c.power-words.result j.constraint.states ≡ graph_of (job_in j))
words c =
    let e = c.power_codes-power.ensures.answer in
    let f = c.power-words.ensures.answer in
    (held-words c.args.j c.requires.0 _ _ e f, held-graph c.args.j c.requires.0 _ _ e f)

pub put_failure-end-requires : goal.put_failure-end-requires
put_failure-end-requires c =
    let j = c.args.j in (
      (words (goal.at.put_failure-end-requires c).After-power-words).0,
      omega (arith, pow_pos j.p, c.ways-n.ensures.answer.0),
      c.ways-n.ensures.answer.1,
      (held-bounds (job_in j) c.requires.0).2,
      ap₂ (λ n g. passing n j.cap g (own j)) c.ways-n.ensures.answer.0
          (words (goal.at.put_failure-end-requires c).After-power-words).1
          ∙ failing-not j c.requires.1,
    )

pub returns : goal.returns
returns c =
    record {
      written = failing-told c.args.j c.requires.1 _ _ c.ways-n.ensures.answer.0
          (words (goal.at.returns c).After-power-words).1 c.put_weights-first.ensures.written
          c.put_failure-end.ensures.written c.put_refusal_line.ensures.written;
    }

pub power_codes-power-requires : goal.power_codes-power-requires
power_codes-power-requires c = (held-few c.args.j c.requires.0, (held-bounds (job_in c.args.j) c.requires.0).1)

pub power-words-requires : goal.power-words-requires
power-words-requires c = omega (arith, (held-bounds (job_in c.args.j) c.requires.0).1)

pub ways-n-requires : goal.ways-n-requires
ways-n-requires c = (held-bounds (job_in c.args.j) c.requires.0).0

pub put_weights-first-requires : goal.put_weights-first-requires
put_weights-first-requires c = held-few c.args.j c.requires.0
