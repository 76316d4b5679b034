-- Each turn marks where edges with one word lead; before the first no pair is marked.
use Rattle.std.proofs.Common.{◌≡◌, ◌<◌, None}
use Rattle.laws.proofs.All.{false, ℕ}
use Rattle.table.specs.Lent.{edges_in}
use Rattle.bitsets.specs.BitSets.{holds, set_at}
use Rattle.window_pairs.specs.PairSets.{Long, joins_by, Marked}
use Rattle.window_pairs.proofs.step_pairs.Given as goal

abbrev pub invariant-loop-w : goal.invariant-loop-w
invariant-loop-w l =
    Long l.targets × Long l.initial.out
    × ((x y : ℕ) → x < l.chains.edges.states → holds (set_at l.initial.out x) y ≡ false)
    × Marked l.initial.out (joins_by (edges_in l.chains.edges) l.pairs None) l.w l.out
