-- Verifying a stream under a table by value.
-- In order: verified_stream_with.
-- Assumes nothing.
use Rattle.std.specs.Prelude.{List, ℕ}
use Rattle.answer.specs.declared.Refusal.TheVariants.{Field}
use Rattle.answer.specs.Outcomes.{Outcome, unless}
use Rattle.table.specs.declared.Table.{Table}
use Rattle.table.specs.Value.{code_in, ready}
use Rattle.codec_verify.specs.Verify.{verified_stream}

-- under a table by value; one that no record gives is declined with 7
unfoldable pub verified_stream_with : Table → ℕ → List ℕ → Outcome (List ℕ)
verified_stream_with t count xs = unless Field (ready t) (verified_stream (code_in t) count xs)
