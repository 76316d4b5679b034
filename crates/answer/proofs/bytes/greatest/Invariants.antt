-- The bytes passed are below every bound above `top`.
use Rattle.std.proofs.Common.{◌≡◌, ◌+◌, ◌<◌}
use Rattle.laws.proofs.All.{ℕ, drop}
use Rattle.answer.specs.FirstBad.{first_bad}
use Rattle.answer.proofs.bytes.greatest.Given as goal

abbrev pub invariant-loop-byte : goal.invariant-loop-byte
invariant-loop-byte l =
    (n : ℕ) → l.top < n → first_bad n l.bytes ≡ l.byte-index + first_bad n (drop l.byte-index l.bytes)
