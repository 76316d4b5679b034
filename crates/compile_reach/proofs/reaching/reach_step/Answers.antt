use Rattle.std.proofs.Common.{◌||◌, ◌/◌, ◌%◌}
use Rattle.laws.proofs.All.{false, arith, get_or, range, any, fill_none}
use Rattle.laws.proofs.All.{fill_more}
use Rattle.compile_reach.specs.ReachSets.{passes_on}
use Rattle.compile_reach.proofs.reaching.reach_step.Goals as goal

pub loop-x-preserved : goal.loop-x-preserved
loop-x-preserved c =
    let l = c.loop-x in
    let p = c.args in
    fill_more false (λ y. get_or p.m.now y false || any (passes_on p.edge.now p.m.now (y / 16) (y % 16))
    (range p.k))
    256 l.x l.r _ (omega arith) c.reaches_on.ensures.answer l.invariant

pub loop-x-init : goal.loop-x-init
loop-x-init c = fill_none false _ 256 false

pub returns : goal.returns
returns c = record { answer = λ x h. c.loop-x.invariant.holds x (omega arith) }
