-- A place that is not in the set has room in the list, since not all places are in the set.
use Rattle.laws.proofs.All.{arith}
use Rattle.record_queue.proofs.Queue.{queue-room, queue-put}
use Rattle.record_queue.proofs.put.Goals as goal

pub bounds-list-m : goal.bounds-list-m
bounds-list-m c =
    let a = c.args in
    queue-room a.set.now a.list.now a.m c.requires a.y (omega arith) c.if-set-y.false

pub returns : goal.returns
returns c =
    let a = c.args in
    record { written = queue-put a.set.now a.list.now a.m c.requires a.y (omega arith) c.if-set-y.false }
