-- The groups of the word before k are not those of states of the set.
use Rattle.std.proofs.Common.{◌≡◌, ◌+◌}
use Rattle.laws.proofs.All.{get_or}
use Rattle.codec_groups.specs.Groups.{between}
use Rattle.codec_steps.specs.BlockParts.{holds_from}
use Rattle.codec_block.proofs.blocks.has_word.Given as goal

abbrev pub invariant-loop-k : goal.invariant-loop-k
invariant-loop-k l =
    let held = holds_from l.groups.first.now l.set in
    let end = get_or l.groups.start.now (l.w + 1) 0 in
    between held (get_or l.groups.start.now l.w 0) end ≡ between held l.k end
