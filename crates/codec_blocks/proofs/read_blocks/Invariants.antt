-- Each turn writes one block.
use Rattle.std.proofs.Common.{◌≡◌, ◌++◌}
use Rattle.laws.proofs.All.{map, length, drop}
use Rattle.laws.proofs.All.{from}
use Rattle.table.specs.Edges.{rows_of}
use Rattle.codec_groups.specs.Lent.{lent_edges}
use Rattle.codec_steps.specs.Reading.{block}
use Rattle.codec_steps.specs.BlockParts.{under}
use Rattle.codec_blocks.proofs.read_blocks.Given as goal

abbrev pub invariant-loop-i : goal.invariant-loop-i
invariant-loop-i l =
    (length l.out ≡ length l.initial.out)
    × (l.out ≡ map (block (under (rows_of (lent_edges l.grouped)) l.m l.a) l.words) (from l.begin l.i)
    ++ drop l.i l.initial.out)
