-- The states passed stand after the numbers in front, and all other bits are as lent.
use Rattle.std.proofs.Common.{◌≡◌}
use Rattle.laws.proofs.All.{map, length, range}
use Rattle.bits.specs.Bytes.{spliced}
use Rattle.bits.specs.Fields.{bits_of}
use Rattle.constraint.specs.Value.{next_states_at}
use Rattle.record.specs.Layout.{header_bits}
use Rattle.record.specs.Parts.{states_bits}
use Rattle.record_write.proofs.put_states.Given as goal

abbrev pub invariant-loop-s : goal.invariant-loop-s
invariant-loop-s l =
    (length l.out ≡ length l.initial.out)
    × (bits_of l.out ≡ spliced header_bits (states_bits (map (next_states_at l.constraint) (range l.s)))
    (bits_of l.initial.out))
