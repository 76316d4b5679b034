-- Each turn counts one part.
use Rattle.std.proofs.Common.{◌≡◌, ◌+◌, ◌-◌, ◌%◌, ◌<◌}
use Rattle.laws.proofs.All.{min}
use Rattle.laws.proofs.All.{drop}
use Rattle.table.specs.Edges.{rows_of}
use Rattle.stream_pack.specs.Streams.{unpacked}
use Rattle.codec_groups.specs.Lent.{lent_edges}
use Rattle.codec_verify.specs.Counting.{agreed, due_in, come_back}
use Rattle.stream_verify.proofs.parts.count_parts.Given as goal

abbrev pub invariant-loop-i : goal.invariant-loop-i
invariant-loop-i l =
    let ws = unpacked l.k.q l.count l.stream in
    let ds = due_in (lent_edges l.grouped) l.k ws in
    (l.i % 8 ≡ 0) × (l.s < l.grouped.edges.states)
    × (come_back (lent_edges l.grouped) l.k ws ≡ min l.i l.count
    + agreed (rows_of (lent_edges l.grouped)) l.grouped.edges.ways l.s (drop (min l.i l.count) ds)
    (drop (min l.i l.count) ws))

abbrev pub decreases-loop-i : goal.decreases-loop-i
decreases-loop-i l = l.count - l.i
