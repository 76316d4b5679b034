use Rattle.laws.proofs.All.{sym, subst, ◌∙◌, arith, below_more, not-true, not-false}
use Rattle.laws.proofs.All.{T}
use Rattle.table.proofs.LoopTests.{all-passed, all-failed}
use Rattle.compile_job.specs.JobValues.{good_state_at}
use Rattle.laws.proofs.All.{ap, not}
use Rattle.compile_job.proofs.rules.good_states.Goals as goal

pub returns-then-not-good_next : goal.returns-then-not-good_next
returns-then-not-good_next c =
    let g = c.good_next in
    let a = c.args in
    record {
      answer = all-failed (good_state_at a.bytes.now a.count) a.count c.loop-s.s (omega arith)
          (sym g.ensures.answer ∙ not-true g.result (ap not c.if-not-good_next.true));
    }

pub loop-s-preserved : goal.loop-s-preserved
loop-s-preserved c =
    let g = c.good_next in
    below_more _ _ c.loop-s.invariant (sym g.ensures.answer ∙ not-false g.result (ap not c.if-not-good_next.false))

pub returns : goal.returns
returns c =
    let l = c.loop-s in
    let a = c.args in
    record {
      answer = all-passed (good_state_at a.bytes.now a.count) a.count l.s (omega arith)
          (λ k h. subst T (sym (l.invariant k h)) tt);
    }

pub loop-s-init : goal.loop-s-init
loop-s-init c = λ k h. absurd (omega arith)
