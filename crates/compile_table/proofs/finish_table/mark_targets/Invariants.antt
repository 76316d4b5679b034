-- Each edge marks the state to which it leads.
use Rattle.std.proofs.Common.{◌≡◌, ◌||◌}
use Rattle.laws.proofs.All.{ℕ, length, take, any, member}
use Rattle.compile_table.specs.Finishing.{entered_by}
use Rattle.compile_table.proofs.finish_table.mark_targets.Given as goal

abbrev pub invariant-loop-key : goal.invariant-loop-key
invariant-loop-key l =
    (length l.marked ≡ 128)
    × ((x : ℕ) → member l.marked x ≡ (member l.fn.set x || any (entered_by x) (take l.key-index l.list)))
