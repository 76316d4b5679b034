-- One line for a run-length constraint, otherwise the count and the states.
use Rattle.text.proofs.Adding.{added-same, ◌then◌}
use Rattle.view_show.proofs.LimitLines.{runs-told, states-told}
use Rattle.view_show.proofs.limits.write_constraint.Goals as goal

pub returns-then-d-c-clause-written : goal.returns-then-d-c-clause-written
returns-then-d-c-clause-written c =
    added-same (runs-told c.args.c _ _ c.least_run-d.ensures.answer c.if-d-c.true) c.write_sentence.ensures.written

pub returns-else-d-c-clause-written : goal.returns-else-d-c-clause-written
returns-else-d-c-clause-written c =
    added-same (states-told c.args.c _ _ c.least_run-d.ensures.answer c.if-d-c.false)
    (c.write_sentence-else-d-c.ensures.written then c.write_states.ensures.written)
