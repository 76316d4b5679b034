-- The edges passed stand after the constraint, and all other bits are as lent.
use Rattle.std.proofs.Common.{◌≡◌}
use Rattle.laws.proofs.All.{length}
use Rattle.bits.specs.Bytes.{spliced}
use Rattle.bits.specs.Fields.{bits_of}
use Rattle.record.proofs.RecordRuns.{edges_bits}
use Rattle.record_write.proofs.put_edges.Given as goal

abbrev pub invariant-loop-e : goal.invariant-loop-e
invariant-loop-e l =
    (length l.out ≡ length l.initial.out)
    × (bits_of l.out ≡ spliced l.first (edges_bits l.t l.n l.e) (bits_of l.initial.out))
