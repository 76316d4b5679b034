-- `write_bytes` meets its contract. The loop's invariant: what was taken is no more than there is. The measure is what
-- is left.
use Rattle.std.proofs.Common.{length, ◌-◌, ◌≤◌}
use Rattle.command_store.proofs.opened.write_bytes.Given as goal

abbrev pub invariant-loop-done : goal.invariant-loop-done
invariant-loop-done g l = l.done ≤ length l.bytes

abbrev pub decreases-loop-done : goal.decreases-loop-done
decreases-loop-done g l = length l.bytes - l.done
