-- Encoding to a bit stream and decoding from one, with their refusals: 15 "just before 12 in decoding; in encoding and
-- packing for the count of words written only, closing words included, before 13".
-- In order: streamed and unstreamed, under a loaded code; encode_stream and decode_stream, under a record's bytes;
-- streamed_with and unstreamed_with, under a table by value.
-- `room` is the length of the output that was lent; `count` is the number of words.
-- Assumes nothing.
use Rattle.std.specs.Prelude.{List, ℕ, ◌+◌, ◌-◌, ◌^◌, leb, length}
use Rattle.answer.specs.declared.Refusal.TheVariants.{Field, TooFewWords, ShortOutput, Stream}
use Rattle.answer.specs.Outcomes.{Outcome, done, unless, onward}
use Rattle.answer.specs.FirstBad.{all_below}
use Rattle.table.specs.declared.Table.{Table}
use Rattle.table.specs.Rows.{Code}
use Rattle.table.specs.Paths.{recording}
use Rattle.table.specs.Value.{code_in, ready}
use Rattle.record_check.specs.Parse.{parse}
use Rattle.codec_steps.specs.Reading.{decode}
use Rattle.stream_pack.specs.Streams.{limit, stream_size, packed, unpacked, good_stream}

-- the stream of the recording of blocks: 15, 13, 11
unfoldable pub streamed : Code → ℕ → List ℕ → Outcome (List ℕ)
streamed c room ds =
    let count = length ds + c.window.lookahead in
    unless Stream (leb count limit)
    (unless ShortOutput (leb (stream_size c.q count) room)
    (all_below (2 ^ c.p) ds (packed c.q (recording c ds))))

-- the blocks of the words of a stream: 15, 12, 13; its words are below 2^q, so 11 cannot come
unfoldable pub unstreamed : Code → ℕ → ℕ → List ℕ → Outcome (List ℕ)
unstreamed c count room xs =
    unless Stream (good_stream c.q count xs)
    (unless TooFewWords (leb c.window.lookahead count)
    (unless ShortOutput (leb (count - c.window.lookahead) room) (done (decode c (unpacked c.q count xs)))))

-- encoding to a stream under the record in the bytes rec
unfoldable pub encode_stream : List ℕ → ℕ → List ℕ → Outcome (List ℕ)
encode_stream rec room ds = onward (parse rec) (λ c. streamed c room ds)

-- decoding from a stream under the record in the bytes rec
unfoldable pub decode_stream : List ℕ → ℕ → ℕ → List ℕ → Outcome (List ℕ)
decode_stream rec count room xs = onward (parse rec) (λ c. unstreamed c count room xs)

-- encoding to a stream under a table by value; one that no record gives is declined with 7
unfoldable pub streamed_with : Table → ℕ → List ℕ → Outcome (List ℕ)
streamed_with t room ds = unless Field (ready t) (streamed (code_in t) room ds)

-- decoding from a stream under a table by value; one that no record gives is declined with 7
unfoldable pub unstreamed_with : Table → ℕ → ℕ → List ℕ → Outcome (List ℕ)
unstreamed_with t count room xs = unless Field (ready t) (unstreamed (code_in t) count room xs)
