-- The loop takes the members out from the lowest on, and joins the targets of their groups.
use Rattle.laws.proofs.All.{length}
use Rattle.bitsets.specs.BitSets.{holds, value_of, members_of}
use Rattle.bitsets.proofs.Places.{In}
use Rattle.bitsets.proofs.Members.{Walked}
use Rattle.codec_groups.specs.Groups.{member_to}
use Rattle.codec_steps.proofs.members.step_members.Given as goal

abbrev pub invariant-loop-s : goal.invariant-loop-s
invariant-loop-s l =
    Walked (In 128 (value_of l.initial.left)) (member_to l.sets l.at l.have) (members_of l.initial.left)
    (members_of l.left) (holds l.out)

abbrev pub decreases-loop-s : goal.decreases-loop-s
decreases-loop-s l = length (members_of l.left)
