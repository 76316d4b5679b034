use Rattle.laws.proofs.All.{sym, ap, not, arith, below_more, le-leb, lt-leb, first-least}
use Rattle.laws.proofs.All.{first-range-none}
use Rattle.compile_weights.specs.Failures.{over}
use Rattle.compile_weights.proofs.brought.first_over.Goals as goal

pub returns-then-cap-v : goal.returns-then-cap-v
returns-then-cap-v c =
    let a = c.args in
    record {
      answer = sym (first-least (over a.cap a.v) a.k a.k c.loop-s.s c.loop-s.invariant (omega arith)
          (ap not (lt-leb _ _ c.if-cap-v.true)));
      there = omega arith;
    }

pub loop-s-preserved : goal.loop-s-preserved
loop-s-preserved c = below_more _ _ c.loop-s.invariant (ap not (le-leb _ _ c.if-cap-v.false))

pub returns : goal.returns
returns c =
    let l = c.loop-s in
    let a = c.args in
    record { answer = sym (first-range-none (over a.cap a.v) a.k a.k (λ j h. l.invariant j (omega arith))); there = tt }

pub loop-s-init : goal.loop-s-init
loop-s-init c = λ j h. absurd (omega arith)
