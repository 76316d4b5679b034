-- The answer of a call that writes bytes: its number and its value.
-- In order: answer_number; answer_value.
-- Assumes nothing.
use Rattle.std.specs.Prelude.{ℕ, Result, Ok, Err}
use Rattle.answer.specs.declared.Refusal.{Refusal}
use Rattle.answer.specs.Refusals.{number_of, place_of}

-- 0 for a result, otherwise the number of the refusal
abbrev pub answer_number : Result ℕ Refusal → ℕ
answer_number (Ok count) = 0
answer_number (Err r) = number_of r

-- how many bytes a result has, otherwise the place that the refusal names
abbrev pub answer_value : Result ℕ Refusal → ℕ
answer_value (Ok count) = count
answer_value (Err r) = place_of r
