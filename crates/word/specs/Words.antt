-- An answer as one number of 64 bits.
-- In order: held, joined; word_of.
-- Assumes nothing.
use Rattle.answer.specs.declared.Refusal.{Refusal}
use Rattle.std.specs.Prelude.{Result}
use Rattle.std.specs.Prelude.{ℕ, ◌+◌, ◌*◌, min}
use Rattle.answer.specs.Answers.{answer_number, answer_value}

-- a value, held to 2^56 − 1
abbrev pub held : ℕ → ℕ
held v = min v 72057594037927935

-- a number times 2^56, plus a value
abbrev pub joined : ℕ → ℕ → ℕ
joined n v = n * 72057594037927936 + held v

-- the refusal's number (0 for a result) and the value: the bytes written, or the place that the refusal names
unfoldable pub word_of : Result ℕ Refusal → ℕ
word_of a = joined (answer_number a) (answer_value a)
