-- How a run ends that encodes or decodes.
-- In order: ends-whole, ends-coded.
-- Assumes nothing.
use Rattle.answer.specs.declared.Refusal.{Refusal}
use Rattle.std.proofs.Common.{Result}
use Rattle.std.proofs.Common.{◌≡◌, ◌⊎◌}
use Rattle.laws.proofs.All.{List, ℕ, length}
use Rattle.answer.specs.Outcomes.{answer_of}
use Rattle.codec_verify.specs.Verify.{verify_under}
use Rattle.command_arguments.specs.declared.Way.{Way}
use Rattle.command_arguments.specs.declared.Way.TheVariants.{Encode, Decode}
use Rattle.command_arguments.specs.declared.Status.{Status}
use Rattle.command_arguments.specs.declared.Status.TheVariants.{Failed}
use Rattle.command_outputs.specs.Results.{Fails, Gives, EndsBy}
use Rattle.command_outputs.proofs.Results.{fails_by, by-ends}
use Rattle.command_verify.proofs.Counts.{verify-most, ends_by, ends-either, ends-both}
use Rattle.command_code.specs.Coding.{coded, Whole, Coded, Short, Spoiled, end_code}

-- a run of this end ends well only where decoded words are a recording, and with status 3 only where they are none
pub ends-whole : (w : Way) (rec xs : List ℕ) → EndsBy (Whole w rec xs) (Short w rec xs) (end_code w rec xs)
ends-whole Encode rec xs = tt
ends-whole Decode rec xs = ends_by (answer_of (verify_under rec xs)) (length xs) (verify-most rec xs)

pub ends-coded : (w : Way) (rec xs : List ℕ) (room : ℕ) (a : Result ℕ Refusal) (s : Status)
    → a ≡ answer_of (coded w rec room xs) → Fails a s → (s ≡ Failed) ⊎ (s ≡ end_code w rec xs)
    → EndsBy (Coded w) (Spoiled w) s
ends-coded w rec xs room a s e f h =
    let o = coded w rec room xs in
    ends-both (Gives o) (Whole w rec xs) (Short w rec xs) s
    (λ g q. record { under = rec; room = room; bytes = xs; gives = g; whole = q })
    (λ g q. record { under = rec; room = room; bytes = xs; gives = g; short = q })
    (by-ends o s (fails_by o a s e f))
    (ends-either (Whole w rec xs) (Short w rec xs) s (end_code w rec xs) h (ends-whole w rec xs))
