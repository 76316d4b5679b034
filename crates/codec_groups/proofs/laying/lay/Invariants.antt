-- Each turn writes the groups of one word after those of the words before it.
use Rattle.std.proofs.Common.{◌≡◌}
use Rattle.laws.proofs.All.{length}
use Rattle.table.specs.Lent.{edges_in}
use Rattle.codec_groups.proofs.AllGroups.{Laying}
use Rattle.codec_groups.proofs.laying.lay.Given as goal

abbrev pub invariant-loop-w : goal.invariant-loop-w
invariant-loop-w l =
    (length l.targets ≡ 128) × Laying (edges_in l.chains.edges) l.w l.k l.start l.first l.sets
    × (length l.sets ≡ length l.initial.sets)
