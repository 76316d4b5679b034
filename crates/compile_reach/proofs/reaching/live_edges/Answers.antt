use Rattle.laws.proofs.All.{false, div-lt_iff_lt-mul, mod-lt, arith, lit<, fill_none}
use Rattle.laws.proofs.All.{fill_more}
use Rattle.compile_reach.specs.ReachSets.{live_edge}
use Rattle.compile_reach.proofs.reaching.live_edges.Goals as goal

pub loop-x-preserved : goal.loop-x-preserved
loop-x-preserved c =
    let l = c.loop-x in
    let p = c.args in
    fill_more false (live_edge p.count.now p.v) 256 l.x l.r _ (omega arith) c.all_above.ensures.answer l.invariant

pub loop-x-init : goal.loop-x-init
loop-x-init c = fill_none false _ 256 false

pub bounds-v-x : goal.bounds-v-x
bounds-v-x c = (div-lt_iff_lt-mul {k = 16} {y = 16} (lit< tt)).1 (omega arith)

pub bounds-v-x-in-loop-x : goal.bounds-v-x-in-loop-x
bounds-v-x-in-loop-x c = mod-lt c.loop-x.x {m = 16} (lit< tt)

pub returns : goal.returns
returns c = record { answer = λ x h. c.loop-x.invariant.holds x (omega arith) }
