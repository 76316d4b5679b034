-- Each turn takes out the lowest state that is left, and writes its group.
use Rattle.laws.proofs.All.{length}
use Rattle.bitsets.specs.BitSets.{members_of}
use Rattle.codec_groups.specs.Groups.{first_edge}
use Rattle.codec_groups.proofs.Puts.{Putting}
use Rattle.codec_groups.proofs.laying.put_groups.Given as goal

abbrev pub invariant-loop-s : goal.invariant-loop-s
invariant-loop-s l =
    Putting l.initial.first l.initial.sets l.at (members_of l.initial.left) (first_edge l.edges.ways l.edges.word.now l.w)
    l.targets (members_of l.left) l.k l.first l.sets

abbrev pub decreases-loop-s : goal.decreases-loop-s
decreases-loop-s l = length (members_of l.left)
