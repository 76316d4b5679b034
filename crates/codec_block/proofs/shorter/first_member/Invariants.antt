-- The groups of the members taken out do not lead into the set ahead.
use Rattle.laws.proofs.All.{length}
use Rattle.bitsets.specs.BitSets.{value_of, members_of}
use Rattle.bitsets.proofs.Places.{In}
use Rattle.codec_groups.specs.Groups.{group_of}
use Rattle.codec_steps.specs.BlockParts.{no_place, into_at}
use Rattle.codec_block.proofs.MemberSearch.{Sought}
use Rattle.codec_block.proofs.shorter.first_member.Given as goal

abbrev pub invariant-loop-s : goal.invariant-loop-s
invariant-loop-s l =
    Sought no_place (In 128 (value_of l.initial.left)) (into_at l.sets l.ahead) (group_of l.at l.have)
    (members_of l.initial.left) (members_of l.left)

abbrev pub decreases-loop-s : goal.decreases-loop-s
decreases-loop-s l = length (members_of l.left)
