use Rattle.laws.proofs.All.{arith, fill_more}
use Rattle.compile_weights.specs.PowerTable.{lower_by}
use Rattle.compile_weights.proofs.state_weights.lower_weights.Goals as goal

pub loop-s-preserved : goal.loop-s-preserved
loop-s-preserved c =
    let l = c.loop-s in
    let p = c.args in
    fill_more 0 (λ x. lower_by p.count.now p.v p.k x p.n) 16 l.s l.r _ (omega arith) c.lower_weight.ensures.answer
    l.invariant

pub returns : goal.returns
returns c = record { answer = λ s h. c.loop-s.invariant.holds s (omega arith) }
