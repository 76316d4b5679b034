-- How a run ends that decodes the words of a stream.
-- In order: ends-decoded.
-- Assumes nothing.
use Rattle.answer.specs.declared.Refusal.{Refusal}
use Rattle.std.proofs.Common.{Result, Ok}
use Rattle.std.proofs.Common.{◌≡◌, ◌⊎◌}
use Rattle.laws.proofs.All.{List, ℕ}
use Rattle.answer.specs.Outcomes.{answer_of}
use Rattle.stream.specs.Recorded.{decode_stream}
use Rattle.codec_verify.specs.Verify.{verify_stream}
use Rattle.command_arguments.specs.declared.Status.{Status}
use Rattle.command_arguments.specs.declared.Status.TheVariants.{Failed}
use Rattle.command_outputs.specs.Results.{Fails, Gives, EndsBy}
use Rattle.command_outputs.proofs.Results.{fails_by, by-ends}
use Rattle.command_verify.specs.Verifying.{end_by, Fewer}
use Rattle.command_verify.proofs.Counts.{stream-most, ends_by, ends-either, ends-both}
use Rattle.command_stream.specs.Streamed.{DecodedStream, SpoiledStream}

-- a run of this end ends well only where the words are a recording, and with status 3 only where they are none
pub ends-decoded : (rec : List ℕ) (count room : ℕ) (xs : List ℕ) (a : Result ℕ Refusal) (s : Status)
    → a ≡ answer_of (decode_stream rec count room xs) → Fails a s
    → (s ≡ Failed) ⊎ (s ≡ end_by (answer_of (verify_stream rec count xs)) count) → EndsBy DecodedStream SpoiledStream s
ends-decoded rec count room xs a s e f h =
    let o = decode_stream rec count room xs in
    let r = answer_of (verify_stream rec count xs) in
    ends-both (Gives o) (r ≡ Ok count) (Fewer r count) s
    (λ g q. record { under = rec; count = count; room = room; stream = xs; gives = g; whole = q })
    (λ g q. record { under = rec; count = count; room = room; stream = xs; gives = g; short = q })
    (by-ends o s (fails_by o a s e f))
    (ends-either (r ≡ Ok count) (Fewer r count) s (end_by r count) h (ends_by r count (stream-most rec count xs)))
