-- Decoding from a stream is decoding of its words.
-- In order: unstreamed-decoded, stream-decodes.
-- Assumes nothing.
use Rattle.std.proofs.Common.{◌≡◌, ◌-◌, ◌^◌}
use Rattle.laws.proofs.All.{sym, ap₂, ◌∙◌, List, ℕ, T, leb}
use Rattle.answer.specs.declared.Refusal.TheVariants.{TooFewWords, ShortOutput, Stream}
use Rattle.answer.specs.Outcomes.{done, unless}
use Rattle.answer.proofs.Outcomes.{unless-true}
use Rattle.answer.proofs.FirstBad.{all_below-true}
use Rattle.table.specs.Rows.{Code}
use Rattle.record_check.specs.Parse.{parse}
use Rattle.codec_steps.specs.Reading.{decode}
use Rattle.codec.specs.Answers.{decoded, decode_under}
use Rattle.stream_pack.specs.Streams.{unpacked, good_stream}
use Rattle.stream_pack.proofs.Streams.{length-unpacked, below-unpacked}
use Rattle.stream.specs.Recorded.{unstreamed, decode_stream}

-- the words of a stream are below 2^q, and there are as many as the call says
pub unstreamed-decoded : (c : Code) (count room : ℕ) (xs : List ℕ) → T (good_stream c.q count xs)
    → unstreamed c count room xs ≡ decoded c room (unpacked c.q count xs)
unfolding unstreamed decoded
unstreamed-decoded c count room xs g =
    let ws = unpacked c.q count xs in
    let a = c.window.lookahead in
    unless-true Stream (good_stream c.q count xs)
    (unless TooFewWords (leb a count) (unless ShortOutput (leb (count - a) room) (done (decode c ws)))) g
    ∙ ap₂ (λ n o. unless TooFewWords (leb a n) (unless ShortOutput (leb (n - a) room) o))
    (sym (length-unpacked c.q count xs))
    (sym (all_below-true (2 ^ c.q) ws (decode c ws) (below-unpacked c.q count xs)))

-- the same under the record in some bytes
pub stream-decodes : (rec : List ℕ) (c : Code) → parse rec ≡ done c → (count room : ℕ) (xs : List ℕ)
    → T (good_stream c.q count xs) → decode_stream rec count room xs ≡ decode_under rec room (unpacked c.q count xs)
unfolding decode_stream decode_under
stream-decodes rec c read count room xs good = rw read (unstreamed-decoded c count room xs good)
