-- `count_marks` meets its contract. The loop's invariant: what was counted is how many of the blocks passed are the
-- mark.
use Rattle.std.proofs.Common.{◌≡◌, ◌≤◌, take}
use Rattle.laws.specs.Sums.{times}
use Rattle.command_marks.proofs.count_marks.Given as goal

abbrev pub invariant-loop-block : goal.invariant-loop-block
invariant-loop-block l = (l.n ≤ l.block-index) × (l.n ≡ times l.mark (take l.block-index l.blocks))
