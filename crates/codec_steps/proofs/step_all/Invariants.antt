-- Each turn steps the set by one word; the words from the turn's own on are left.
use Rattle.std.proofs.Common.{◌≡◌}
use Rattle.laws.proofs.All.{drop}
use Rattle.table.specs.Edges.{Arrays, rows_of}
use Rattle.bitsets.specs.BitSets.{yes_no}
use Rattle.codec_groups.specs.Lent.{GroupedBy}
use Rattle.codec_steps.specs.StateSets.{along_all}
use Rattle.codec_steps.proofs.step_all.Given as goal

abbrev pub invariant-loop-word : goal.invariant-loop-word
invariant-loop-word l =
    (t : Arrays) → GroupedBy t l.groups → along_all (rows_of t) (yes_no t.states l.initial.reached) l.words
    ≡ along_all (rows_of t) (yes_no t.states l.reached) (drop l.word-index l.words)
