use Rattle.std.proofs.Common.{◌≡◌}
use Rattle.laws.proofs.All.{refl, ap, ◌∙◌, arith}
use Rattle.constraint.specs.Value.{constraint_of}
use Rattle.text.proofs.Adding.{added-same, ◌then◌, begun}
use Rattle.view_show.specs.Limits.{states_to}
use Rattle.view_show.proofs.LimitLines.{states-none, states-more}
use Rattle.view_show.proofs.limits.write_states.Goals as goal

pub loop-s-init : goal.loop-s-init
loop-s-init c = (refl, added-same (states-none c.args.c) (begun c.put.ensures.written))

pub loop-s-preserved : goal.loop-s-preserved
loop-s-preserved c =
    let l = c.loop-s in (
      c.write_state.ensures.lent ∙ l.invariant.0,
      added-same (states-more c.args.c l.s c.loop-s-test.true) (l.invariant.1 then c.write_state.ensures.written),
    )

pub returns-clause-written : goal.returns-clause-written
returns-clause-written c =
    let l = c.loop-s in
    let a = c.args in
    let e : l.s ≡ a.c.states = omega (arith, c.loop-s-test.false) in
    added-same (ap (states_to (constraint_of a.c)) e) (c.put.ensures.written then l.invariant.1)
