use Rattle.std.proofs.Common.{◌≡◌}
use Rattle.laws.proofs.All.{sym, ◌∙◌, arith, below_more, ltb, le-ltb, lt-ltb}
use Rattle.laws.proofs.All.{get_or, first-least, first-range-none}
use Rattle.compile_weights.specs.Failures.{unmet_by}
use Rattle.compile_weights.proofs.brought.first_unmet.Goals.{After-lower_weight}
use Rattle.compile_weights.proofs.brought.first_unmet.Goals as goal

-- the test of a state, as the code finds it
tested : (c : After-lower_weight) → let a = c.args in unmet_by a.count.now a.v a.k a.n c.loop-s.s
    ≡ ltb c.lower_weight.result (get_or a.v c.loop-s.s 0)
tested c = rw c.lower_weight.ensures.answer

pub returns-then-lower_weight-v : goal.returns-then-lower_weight-v
returns-then-lower_weight-v c =
    let a = c.args in
    record {
      answer = sym (first-least (unmet_by a.count.now a.v a.k a.n) a.k a.k c.loop-s.s c.loop-s.invariant
          c.loop-s-test.true (tested (goal.at.returns-then-lower_weight-v c).After-lower_weight ∙ lt-ltb _ _
          c.if-lower_weight-v.true));
      there = omega arith;
    }

pub loop-s-preserved : goal.loop-s-preserved
loop-s-preserved c =
    below_more _ _ c.loop-s.invariant
    (tested (goal.at.loop-s-preserved c).After-lower_weight ∙ le-ltb _ _ c.if-lower_weight-v.false)

pub returns : goal.returns
returns c =
    let l = c.loop-s in
    let a = c.args in
    record {
      answer = sym (first-range-none (unmet_by a.count.now a.v a.k a.n) a.k a.k
          (λ j h. l.invariant j (omega arith)));
      there = tt;
    }

pub loop-s-init : goal.loop-s-init
loop-s-init c = λ j h. absurd (omega arith)
