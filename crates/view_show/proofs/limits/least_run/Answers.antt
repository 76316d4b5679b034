use Rattle.std.proofs.Common.{◌≡◌, ◌-◌}
use Rattle.laws.proofs.All.{sym, ◌∙◌, false, not-suc-le-zero, arith, below_more}
use Rattle.constraint.specs.Value.{constraint_of}
use Rattle.view_show.specs.Limits.{is_runs}
use Rattle.view_show.proofs.LimitLines.{same_runs, run-least, run_none}
use Rattle.view_show.proofs.limits.least_run.Goals.{After-is_same}
use Rattle.view_show.proofs.limits.least_run.Goals as goal

-- the test of a turn
test-is : (c : After-is_same)
    → c.is_same.result
    ≡ is_runs (constraint_of c.args.c) c.loop-d.d
test-is c =
    c.is_same.ensures.answer ∙ same_runs c.args.c c.run_length.result c.loop-d.d
    (omega (arith, c.loop-d-test.true)) c.run_length.ensures.answer

pub returns-then-is_same : goal.returns-then-is_same
returns-then-is_same c =
    record {
      answer = run-least c.args.c c.loop-d.d c.loop-d.invariant
          c.loop-d-test.true (sym (test-is (goal.at.returns-then-is_same c).After-is_same) ∙ c.if-is_same.true);
    }

pub loop-d-preserved : goal.loop-d-preserved
loop-d-preserved c =
    let l = c.loop-d in
    below_more (λ j. is_runs (constraint_of c.args.c) j ≡ false) l.d l.invariant
    (sym (test-is (goal.at.loop-d-preserved c).After-is_same) ∙ c.if-is_same.false)

pub returns : goal.returns
returns c =
    let l = c.loop-d in
    let k = c.args.c in
    record { answer = run_none k (λ j h. l.invariant j (omega (arith, c.loop-d-test.false))) }

pub loop-d-init : goal.loop-d-init
loop-d-init c = λ j h. absurd (not-suc-le-zero h)

pub overflow_sub-c : goal.overflow_sub-c
overflow_sub-c c = omega (arith, c.loop-d-test.true)

pub run_length-requires : goal.run_length-requires
run_length-requires c = omega (arith, c.loop-d-test.true, c.requires)

pub is_same-requires : goal.is_same-requires
is_same-requires c = c.requires
