-- Each turn passes a word that the datum at its place spells; a mark or another word ends the loop.
use Rattle.std.proofs.Common.{◌≡◌, ◌+◌, ◌≤◌, ◌<◌}
use Rattle.laws.proofs.All.{List, ℕ, drop}
use Rattle.table.specs.Edges.{rows_of}
use Rattle.codec_groups.specs.Lent.{lent_edges}
use Rattle.codec_verify.specs.Counting.{agreed, due_in}
use Rattle.stream_verify.specs.Parts.{read_by, Held}
use Rattle.stream_verify.proofs.part.count_in.Given as goal

abbrev pub invariant-loop-place : goal.invariant-loop-place
invariant-loop-place l =
    let t = lent_edges l.grouped in
    (l.part.from ≤ l.place) × (l.place ≤ l.part.end) × (l.state < t.states)
    × ((U : List ℕ) → Held (read_by t l.k) U l.words l.part
    → l.part.from + agreed (rows_of t) t.ways l.part.state (drop l.part.from (due_in t l.k U)) (drop l.part.from U)
    ≡ l.place + agreed (rows_of t) t.ways l.state (drop l.place (due_in t l.k U)) (drop l.place U))
