use Rattle.std.proofs.Common.{◌≡◌}
use Rattle.laws.proofs.All.{arith}
use Rattle.record_queue.proofs.Queue.{grown-none, grown-more}
use Rattle.record_queue.proofs.put_targets.Goals as goal

pub loop-d-preserved : goal.loop-d-preserved
loop-d-preserved c =
    let l = c.loop-d in
    grown-more _ l.d _ l.set _ _ l.list _ _ l.count _ c.pair_after-y.result c.pair_after-y.ensures.answer l.invariant
    c.put-count.ensures.written

pub returns : goal.returns
returns c =
    let l = c.loop-d in
    let e : l.d ≡ c.args.n = omega arith in
    record { written = rw (← e) l.invariant }

pub loop-d-init : goal.loop-d-init
loop-d-init c = grown-none _ _ _ _ c.requires.2

pub put-count-requires : goal.put-count-requires
put-count-requires c = c.loop-d.invariant.queue
