use Rattle.std.proofs.Common.{◌/◌, ◌%◌}
use Rattle.laws.proofs.All.{refl, false, arith, eqb, fill_none, fill_more}
use Rattle.compile_reach.proofs.reaching.themselves.Goals as goal

pub loop-x-init : goal.loop-x-init
loop-x-init c = fill_none false _ 256 false

pub loop-x-preserved : goal.loop-x-preserved
loop-x-preserved c =
    let l = c.loop-x in fill_more false (λ y. eqb (y / 16) (y % 16)) 256 l.x l.r _ (omega arith) refl l.invariant

pub returns : goal.returns
returns c = record { answer = λ x h. c.loop-x.invariant.holds x (omega arith) }
