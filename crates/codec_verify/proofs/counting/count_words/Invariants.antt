-- Each turn passes a word that the datum at its place spells; a mark or another word ends the loop.
use Rattle.std.proofs.Common.{◌≡◌, ◌+◌, ◌<◌}
use Rattle.laws.proofs.All.{drop}
use Rattle.table.specs.Edges.{rows_of}
use Rattle.codec_groups.specs.Lent.{lent_edges}
use Rattle.codec_verify.specs.Counting.{agreed, due_in, come_back}
use Rattle.codec_verify.proofs.counting.count_words.Given as goal

abbrev pub invariant-loop-i : goal.invariant-loop-i
invariant-loop-i l =
    let t = lent_edges l.grouped in
    let ds = due_in t l.k l.words in
    (l.s < t.states)
    × (come_back t l.k l.words ≡ l.i + agreed (rows_of t) t.ways l.s (drop l.i ds) (drop l.i l.words))
