-- The set and the list begin empty.
use Rattle.record_queue.proofs.Queue.{queue-blank}
use Rattle.record_obeys.proofs.follow.Goals as goal

pub follow_from-requires : goal.follow_from-requires
follow_from-requires c = (c.requires.0, c.requires.1, queue-blank)

pub returns : goal.returns
returns c = record { answer = c.follow_from.ensures.answer }
