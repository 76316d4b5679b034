-- Each turn puts the place of one datum.
use Rattle.record_queue.specs.Places.{pair_after, Grown}
use Rattle.record_queue.proofs.put_targets.Given as goal

abbrev pub invariant-loop-d : goal.invariant-loop-d
invariant-loop-d l =
    Grown (pair_after l.word l.next l.power l.x) l.d l.initial.set l.initial.list l.m l.set l.list l.count
