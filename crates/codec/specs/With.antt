-- Encoding and decoding under a table by value, for callers that pay for its checks once. A value of the struct that no
-- record gives is declined with 7, so that the promise holds for every value.
-- In order: encoded_with; decoded_with.
-- Assumes nothing.
use Rattle.std.specs.Prelude.{List, ℕ}
use Rattle.answer.specs.declared.Refusal.TheVariants.{Field}
use Rattle.answer.specs.Outcomes.{Outcome, unless}
use Rattle.table.specs.declared.Table.{Table}
use Rattle.table.specs.Value.{code_in, ready}
use Rattle.codec.specs.Answers.{encoded, decoded}

-- encoding under a table by value
unfoldable pub encoded_with : Table → ℕ → List ℕ → Outcome (List ℕ)
encoded_with t room ds = unless Field (ready t) (encoded (code_in t) room ds)

-- decoding under a table by value
unfoldable pub decoded_with : Table → ℕ → List ℕ → Outcome (List ℕ)
decoded_with t room ws = unless Field (ready t) (decoded (code_in t) room ws)
