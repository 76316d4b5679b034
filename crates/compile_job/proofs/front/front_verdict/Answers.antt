-- `front_verdict` meets its contract: each return follows the first check that fails, or all of them.
use Rattle.std.proofs.Common.{◌≤◌}
use Rattle.laws.proofs.All.{sym, subst, ◌∙◌, arith, T, not-true, not-false, length}
use Rattle.answer.specs.Outcomes.{done}
use Rattle.compile_job.proofs.Fronts.{front-short, front-parameters, front-passed}
use Rattle.laws.proofs.All.{ap, not}
use Rattle.compile_job.proofs.front.front_verdict.Goals.{Else-bytes-lt4}
use Rattle.compile_job.proofs.front.front_verdict.Goals as goal

long : (c : Else-bytes-lt4) → 4 ≤ length c.args.bytes.now
long c = omega (arith, c.if-bytes-lt4.false)

pub returns-then-bytes-lt4 : goal.returns-then-bytes-lt4
returns-then-bytes-lt4 c =
    let xs = c.args.bytes.now in
    record { answer = sym (front-short xs (done xs) c.if-bytes-lt4.true) }

pub returns-then-not-good_parameters : goal.returns-then-not-good_parameters
returns-then-not-good_parameters c =
    record {
      answer = sym (front-parameters c.args.bytes.now (done c.args.bytes.now)
          (long (goal.at.returns-then-not-good_parameters c).Else-bytes-lt4)
          (sym c.good_parameters.ensures.answer ∙ not-true c.good_parameters.result
          (ap not c.if-not-good_parameters.true)));
    }

pub returns : goal.returns
returns c =
    record {
      answer = sym (front-passed c.args.bytes.now (done c.args.bytes.now)
          (long (goal.at.returns c).Else-bytes-lt4)
          (subst T (sym (sym c.good_parameters.ensures.answer ∙ not-false c.good_parameters.result
          (ap not c.if-not-good_parameters.false))) tt));
    }

pub overflow_cast-bytes : goal.overflow_cast-bytes
overflow_cast-bytes c = omega (arith, c.type_inv.bytes 0)

pub overflow_cast-bytes-2 : goal.overflow_cast-bytes-2
overflow_cast-bytes-2 c = omega (arith, c.type_inv.bytes 1)

pub overflow_cast-bytes-3 : goal.overflow_cast-bytes-3
overflow_cast-bytes-3 c = omega (arith, c.type_inv.bytes 2)
