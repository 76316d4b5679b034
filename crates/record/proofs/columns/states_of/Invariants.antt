-- The arrays hold the next states of every state passed.
use Rattle.std.proofs.Common.{◌≡◌, ◌+◌, ◌*◌, ◌<◌}
use Rattle.laws.proofs.All.{ℕ, length, get_or}
use Rattle.bits.specs.Fields.{bits_of}
use Rattle.record.specs.Layout.{header_bits, state_size}
use Rattle.record.specs.Places.{next_in}
use Rattle.record.proofs.columns.states_of.Given as goal

abbrev pub invariant-loop-s : goal.invariant-loop-s
invariant-loop-s l =
    (length l.zero ≡ 16) × (length l.one ≡ 16)
    × ((k : ℕ) → k < l.s → get_or l.zero k 0 ≡ next_in (bits_of l.bytes) (header_bits + k * state_size))
    × ((k : ℕ) → k < l.s → get_or l.one k 0 ≡ next_in (bits_of l.bytes) (header_bits + 5 + k * state_size))
