use Rattle.bitsets.specs.BitSets.{value_of}
use Rattle.bitsets.proofs.Places.{places-each}
use Rattle.bitsets.proofs.Members.{walk_start}
use Rattle.table_words.proofs.union_of.Goals as goal

pub loop-s-init : goal.loop-s-init
loop-s-init c = walk_start _ _ _ _ (places-each 128 (value_of c.args.set)) c.none-out.ensures.answer
