use Rattle.laws.proofs.All.{refl, ap₂, arith, map-range-same}
use Rattle.constraint.specs.Walking.{none, NextStates}
use Rattle.constraint.proofs.Values.{fill_none, fill_more, filled-read}
use Rattle.compile_job.specs.JobValues.{state_at}
use Rattle.compile_job.proofs.rules.states_of.Goals as goal

pub loop-s-preserved : goal.loop-s-preserved
loop-s-preserved c =
    let l = c.loop-s in (
      fill_more _ none 16 l.s l.zero _ (omega arith) refl l.invariant.0,
      fill_more _ none 16 l.s l.one _ (omega arith) refl l.invariant.1,
    )

pub returns : goal.returns
returns c =
    let l = c.loop-s in
    let a = c.args in
    record {
      answer = map-range-same _ (state_at a.bytes.now) a.count
          (λ i h. ap₂ {C = NextStates} (λ z o. record { zero = z; one = o })
          (filled-read _ none 16 l.s l.zero l.invariant.0 i (omega arith) (omega arith))
          (filled-read _ none 16 l.s l.one l.invariant.1 i (omega arith) (omega arith)));
      kept = refl;
    }

pub loop-s-init : goal.loop-s-init
loop-s-init c = (fill_none _ none 16, fill_none _ none 16)
