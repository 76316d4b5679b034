-- The reach of damage in channel bits: "only blocks f / q − a (0 if negative) to l / q + m, quotients rounded down, can
-- then differ from the data written".
-- In order: first_block, last_block; block_range, blocks_of; reach_in, reach_under; reach_answer; reach_number,
-- reach_values.
-- Assumes nothing.
use Rattle.std.specs.Prelude.{List, [], ◌∷◌, ℕ, Result, Ok, Err, ◌+◌, ◌*◌, ◌-◌, ◌/◌, ltb}
use Rattle.answer.specs.declared.Refusal.{Refusal}
use Rattle.answer.specs.declared.Refusal.TheVariants.{Stream}
use Rattle.answer.specs.Refusals.{number_of, place_of}
use Rattle.answer.specs.Outcomes.{Outcome, done, refused, unless, onward}
use Rattle.table.specs.Rows.{Code}
use Rattle.record_check.specs.Parse.{parse}
use Rattle.stream_pack.specs.Streams.{limit}
use Rattle.stream_damage.specs.declared.BitRange.{BitRange}
use Rattle.stream_damage.specs.declared.BlockRange.{BlockRange}

-- "f / q − a (0 if negative)"
abbrev pub first_block : ℕ → ℕ → ℕ → ℕ
first_block q a f = f / q - a

-- "l / q + m"
abbrev pub last_block : ℕ → ℕ → ℕ → ℕ
last_block q m l = l / q + m

-- the blocks from number i to number j
abbrev pub block_range : ℕ → ℕ → BlockRange
block_range i j = record { first = record { 0 = i }; last = record { 0 = j } }

-- the blocks that can differ when the channel bits of a range are overwritten
abbrev pub blocks_of : ℕ → ℕ → ℕ → BitRange → BlockRange
blocks_of q m a d = block_range (first_block q a d.first.0) (last_block q m d.last.0)

-- "the reach is quoted for those within" the limit, under a code: 15
unfoldable pub reach_in : Code → BitRange → Outcome BlockRange
reach_in c d =
    unless Stream (ltb d.last.0 (limit * c.q))
    (done (blocks_of c.q c.window.memory c.window.lookahead d))

-- the same under the record in the bytes rec: its refusals, 15
unfoldable pub reach_under : List ℕ → BitRange → Outcome BlockRange
reach_under rec d = onward (parse rec) (λ c. reach_in c d)

-- the code's answer
abbrev pub reach_answer : Outcome BlockRange → Result BlockRange Refusal
reach_answer (done b) = Ok b
reach_answer (refused r) = Err r

-- 0 for blocks that are quoted, otherwise the number of the refusal
abbrev pub reach_number : Result BlockRange Refusal → ℕ
reach_number (Ok b) = 0
reach_number (Err r) = number_of r

-- the numbers of the first and the last block, otherwise the place that the refusal names
abbrev pub reach_values : Result BlockRange Refusal → List ℕ
reach_values (Ok b) = b.first.0 ∷ b.last.0 ∷ []
reach_values (Err r) = place_of r ∷ []
