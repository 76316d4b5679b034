-- The groups of the word before k do not lead from the one set into the other.
use Rattle.std.proofs.Common.{◌≡◌, ◌+◌}
use Rattle.laws.proofs.All.{get_or}
use Rattle.codec_steps.specs.BlockParts.{no_place, joins_at}
use Rattle.codec_block.proofs.Scans.{scan}
use Rattle.codec_block.proofs.blocks.first_group.Given as goal

abbrev pub invariant-loop-k : goal.invariant-loop-k
invariant-loop-k l =
    let joins = joins_at l.groups.first.now l.groups.sets.now l.past l.ahead in
    let end = get_or l.groups.start.now (l.w + 1) 0 in
    scan joins no_place (get_or l.groups.start.now l.w 0) end ≡ scan joins no_place l.k end
