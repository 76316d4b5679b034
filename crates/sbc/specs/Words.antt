-- A set's answer as one number of 64 bits.
-- In order: set_word_of.
-- Assumes nothing.
use Rattle.std.specs.Prelude.{ℕ}
use Rattle.word.specs.Words.{joined}
use Rattle.set_check.specs.Results.{SetAnswer, set_number, set_value}

-- the refusal's number (0 for a good set) and the value: how many records a good set has, or the number of the first
-- bad one
unfoldable pub set_word_of : SetAnswer → ℕ
set_word_of a = joined (set_number a) (set_value a)
