-- The reach of damage, as it is asked and told.
-- In order: bits_from; reach_line.
-- Assumes nothing.
use Rattle.std.specs.Prelude.{List, ℕ, Ok}
use Rattle.sentences.specs.Sentences.{said}
use Rattle.stream_damage.specs.declared.BitRange.{BitRange}
use Rattle.stream_damage.specs.declared.BlockRange.{BlockRange}
use Rattle.stream_damage.specs.BitReach.{reach_values}

-- channel bits from the first to the last
abbrev pub bits_from : ℕ → ℕ → BitRange
bits_from first last = record { first = record { 0 = first }; last = record { 0 = last } }

-- the line of blocks, by the values of the answer: `blocks 4 to 6`
abbrev pub reach_line : BlockRange → List ℕ
reach_line b = said "blocks # to #\n" (reach_values (Ok b))
