-- A record with another tail datum: "A rig at one college closes with another datum, so the record states it".
-- In order: closed, under a loaded code; closed_with, under a record's bytes.
-- `room` is the length of the output that was lent.
-- Assumes nothing.
use Rattle.std.specs.Prelude.{List, ℕ, ◌^◌, ltb}
use Rattle.answer.specs.declared.Refusal.TheVariants.{Field}
use Rattle.answer.specs.Outcomes.{Outcome, unless, onward}
use Rattle.table.specs.Rows.{Code, with_tail}
use Rattle.record.specs.Parse.{pack_into}
use Rattle.record_check.specs.Parse.{parse}

-- the record of the code with the tail datum k: "A tail datum of 2^p or more is refusal 7", then 13
abbrev pub closed : Code → ℕ → ℕ → Outcome (List ℕ)
closed c k room = unless Field (ltb k (2 ^ c.p)) (pack_into (with_tail c k) room)

-- the record in the bytes xs with the tail datum k: the record's refusals, 7, 13
unfoldable pub closed_with : List ℕ → ℕ → ℕ → Outcome (List ℕ)
closed_with xs k room = onward (parse xs) (λ c. closed c k room)
