use Rattle.std.proofs.Common.{◌+◌}
use Rattle.laws.proofs.All.{ap₂, arith}
use Rattle.constraint.specs.Walking.{none, NextStates, nowhere, run_length_state}
use Rattle.constraint.proofs.Values.{map_below, fill_none, fill_more, filled-read}
use Rattle.constraint.proofs.Constraint.run_length.Goals as goal

pub loop-i-init : goal.loop-i-init
loop-i-init c = (fill_none _ none 16, fill_none _ none 16)

pub loop-i-preserved : goal.loop-i-preserved
loop-i-preserved c =
    let l = c.loop-i in (
      fill_more _ none 16 l.i l.zero _ (omega arith) c.after_zero.ensures.answer l.invariant.0,
      fill_more _ none 16 l.i l.one _ (omega arith) c.after_one.ensures.answer l.invariant.1,
    )

pub returns : goal.returns
returns c =
    let a = c.args in
    let l = c.loop-i in
    record {
      answer = map_below nowhere _ (run_length_state a.d a.k) (a.k + 1)
          (λ i h. ap₂ {C = NextStates} (λ z o. record { zero = z; one = o })
          (filled-read _ none 16 l.i l.zero l.invariant.0 i (omega arith) (omega arith))
          (filled-read _ none 16 l.i l.one l.invariant.1 i (omega arith) (omega arith)));
    }
