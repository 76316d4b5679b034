-- Whether words are a recording: those in front that encoding their decoded blocks gives back. A list of words is a
-- recording exactly when all of them come back.
-- In order: rebuilt, what encoding gives; verified, under a loaded code; verify_under, under a record's bytes;
-- verified_stream and verify_stream, of a bit stream; verified_with, under a table by value.
-- Assumes nothing.
use Rattle.std.specs.Prelude.{List, ◌++◌, ℕ, ◌^◌, leb, length}
use Rattle.answer.specs.declared.Refusal.TheVariants.{Field, TooFewWords, Stream}
use Rattle.answer.specs.Outcomes.{Outcome, done, unless, onward}
use Rattle.answer.specs.FirstBad.{all_below}
use Rattle.table.specs.declared.Table.{Table}
use Rattle.table.specs.Rows.{Code}
use Rattle.table.specs.Paths.{spells, closing}
use Rattle.table.specs.Value.{code_in, ready}
use Rattle.record_check.specs.Parse.{parse}
use Rattle.codec_steps.specs.Reading.{decode}
use Rattle.stream_pack.specs.Streams.{unpacked, good_stream}
use Rattle.codec_verify.specs.Fronts.{same_front, before_bad}

-- the words of the decoded blocks from state 0, and of the closing blocks after them, up to the first block that is a
-- mark: a mark is no datum, and no word can be spelled for it
abbrev pub rebuilt : Code → List ℕ → List ℕ
rebuilt c ws = spells c.table 0 (before_bad (2 ^ c.p) (decode c ws ++ closing c))

-- the words in front that come back: 12, 11
unfoldable pub verified : Code → List ℕ → Outcome (List ℕ)
verified c ws =
    unless TooFewWords (leb c.window.lookahead (length ws)) (all_below (2 ^ c.q) ws (same_front (rebuilt c ws) ws))

-- the same under the record in the bytes xs
unfoldable pub verify_under : List ℕ → List ℕ → Outcome (List ℕ)
verify_under xs ws = onward (parse xs) (λ c. verified c ws)

-- of the words of a stream: 15, 12; its words are below 2^q, so 11 cannot come
unfoldable pub verified_stream : Code → ℕ → List ℕ → Outcome (List ℕ)
verified_stream c count xs =
    unless Stream (good_stream c.q count xs) (unless TooFewWords (leb c.window.lookahead count)
    (done (same_front (rebuilt c (unpacked c.q count xs)) (unpacked c.q count xs))))

-- the same under the record in the bytes rec
unfoldable pub verify_stream : List ℕ → ℕ → List ℕ → Outcome (List ℕ)
verify_stream rec count xs = onward (parse rec) (λ c. verified_stream c count xs)

-- under a table by value; one that no record gives is declined with 7
unfoldable pub verified_with : Table → List ℕ → Outcome (List ℕ)
verified_with t ws = unless Field (ready t) (verified (code_in t) ws)
