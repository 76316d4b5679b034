-- The loop takes the states out of the set from the lowest on, and joins their sets.
use Rattle.laws.proofs.All.{length}
use Rattle.bitsets.specs.BitSets.{holds, value_of, members_of}
use Rattle.bitsets.proofs.Places.{In}
use Rattle.bitsets.proofs.Members.{Walked}
use Rattle.table_words.specs.Gathered.{holds_in}
use Rattle.table_words.proofs.union_of.Given as goal

abbrev pub invariant-loop-s : goal.invariant-loop-s
invariant-loop-s l =
    Walked (In 128 (value_of l.initial.left)) (holds_in l.sets) (members_of l.initial.left) (members_of l.left)
    (holds l.out)

abbrev pub decreases-loop-s : goal.decreases-loop-s
decreases-loop-s l = length (members_of l.left)
