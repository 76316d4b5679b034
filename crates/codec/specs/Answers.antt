-- Encoding and decoding with their refusals: "Encode: record, 13, 11. Decode: record, 12, 13, 11."
-- In order: encoded and decoded, under a loaded code; encode_under and decode_under, under a record's bytes;
-- encode_checked and decode_checked, under those of a record that was accepted before.
-- `room` is the length of the output that was lent.
-- Assumes nothing.
use Rattle.std.specs.Prelude.{List, ℕ, ◌+◌, ◌-◌, ◌^◌, leb, length}
use Rattle.answer.specs.declared.Refusal.TheVariants.{TooFewWords, ShortOutput}
use Rattle.answer.specs.Outcomes.{Outcome, unless, onward}
use Rattle.answer.specs.FirstBad.{all_below}
use Rattle.table.specs.Rows.{Code}
use Rattle.table.specs.Paths.{recording}
use Rattle.record.specs.Checks.{fields_checked}
use Rattle.record_check.specs.Parse.{parse}
use Rattle.codec_steps.specs.Reading.{decode}

-- the recording of blocks: "13, 11"
unfoldable pub encoded : Code → ℕ → List ℕ → Outcome (List ℕ)
encoded c room ds =
    unless ShortOutput (leb (length ds + c.window.lookahead) room) (all_below (2 ^ c.p) ds (recording c ds))

-- the blocks of words: "12, 13, 11"
unfoldable pub decoded : Code → ℕ → List ℕ → Outcome (List ℕ)
decoded c room ws =
    unless TooFewWords (leb c.window.lookahead (length ws))
    (unless ShortOutput (leb (length ws - c.window.lookahead) room) (all_below (2 ^ c.q) ws (decode c ws)))

-- encoding under the record in the bytes xs
unfoldable pub encode_under : List ℕ → ℕ → List ℕ → Outcome (List ℕ)
encode_under xs room ds = onward (parse xs) (λ c. encoded c room ds)

-- decoding under the record in the bytes xs
unfoldable pub decode_under : List ℕ → ℕ → List ℕ → Outcome (List ℕ)
decode_under xs room ws = onward (parse xs) (λ c. decoded c room ws)

-- encoding under the record in the bytes xs, with its refusals up to 9 and 10, which are not looked at
unfoldable pub encode_checked : List ℕ → ℕ → List ℕ → Outcome (List ℕ)
encode_checked xs room ds = onward (fields_checked xs) (λ c. encoded c room ds)

-- decoding under the record in the bytes xs, with its refusals up to 9 and 10, which are not looked at
unfoldable pub decode_checked : List ℕ → ℕ → List ℕ → Outcome (List ℕ)
decode_checked xs room ws = onward (fields_checked xs) (λ c. decoded c room ws)
