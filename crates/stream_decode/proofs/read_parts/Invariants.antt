-- `stream_decode::read_parts` meets its contract: each turn reads one part.
use Rattle.std.proofs.Common.{◌≡◌, ◌++◌, ◌-◌, ◌%◌}
use Rattle.laws.proofs.All.{map, min}
use Rattle.laws.proofs.All.{length, drop, range}
use Rattle.table.specs.Edges.{rows_of}
use Rattle.codec_groups.specs.Lent.{lent_edges}
use Rattle.codec_steps.specs.Reading.{block}
use Rattle.codec_steps.specs.BlockParts.{under}
use Rattle.stream_pack.specs.Streams.{unpacked}
use Rattle.stream_decode.proofs.read_parts.Given as goal

abbrev pub invariant-loop-i : goal.invariant-loop-i
invariant-loop-i l =
    (l.i % 8 ≡ 0) × (length l.out ≡ length l.initial.out)
    × (l.out ≡ map (block (under (rows_of (lent_edges l.grouped)) l.m l.a) (unpacked l.grouped.edges.q l.count l.stream))
    (range (min l.i l.blocks)) ++ drop (min l.i l.blocks) l.initial.out)

abbrev pub decreases-loop-i : goal.decreases-loop-i
decreases-loop-i l = l.blocks - l.i
