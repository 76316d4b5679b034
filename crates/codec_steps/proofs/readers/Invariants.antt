-- Each turn steps the set back by one word; the words from j on are read.
use Rattle.std.proofs.Common.{◌≡◌}
use Rattle.laws.proofs.All.{drop}
use Rattle.table.specs.Edges.{Arrays, rows_of}
use Rattle.bitsets.specs.BitSets.{yes_no}
use Rattle.codec_groups.specs.Lent.{GroupedBy}
use Rattle.codec_steps.specs.StateSets.{able}
use Rattle.codec_steps.proofs.readers.Given as goal

abbrev pub invariant-loop-j : goal.invariant-loop-j
invariant-loop-j l =
    (t : Arrays) → GroupedBy t l.groups → yes_no t.states l.able ≡ able (rows_of t) (drop l.j l.words)
