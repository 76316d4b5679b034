-- The loop goes over the groups of the word, and joins the states of those that lead into the set.
use Rattle.std.proofs.Common.{◌+◌}
use Rattle.laws.proofs.All.{get_or}
use Rattle.codec_groups.specs.Groups.{leads_into}
use Rattle.codec_steps.proofs.GroupTurns.{Joining}
use Rattle.codec_steps.proofs.back_by.Given as goal

abbrev pub invariant-loop-k : goal.invariant-loop-k
invariant-loop-k l =
    Joining (leads_into l.groups.first.now l.groups.sets.now l.set) (get_or l.groups.start.now l.w 0)
    (get_or l.groups.start.now (l.w + 1) 0) l.k l.out
