-- A set's answer as a number of 64 bits fits, and its parts are got back.
-- In order: set-number-le; set_words.
-- Assumes nothing.
use Rattle.std.proofs.Common.{Ok, Err}
use mathlib.Core.Path.{◌≡◌}
use Prim.Native.Nat.{ℕ, ◌/◌, ◌%◌, ◌^◌, ◌≤◌}
use native.Mathlib.Omega.{arith}
use Rattle.answer.specs.declared.Refusal.{Refusal}
use Rattle.answer.specs.Refusals.{number_of, most}
use Rattle.answer.proofs.Cases.{number-most}
use Rattle.set_check.specs.Results.{bad, SetAnswer, set_number}
use Rattle.word.specs.Words.{held}
use Rattle.word.proofs.Words.{joined-parts}
use Rattle.sbc.specs.Words.{set_word_of}

pub set-number-le : (a : SetAnswer) → set_number a ≤ most
set-number-le (Ok n) = omega arith
set-number-le (Err b) = number-most b.refusal

-- the number and the value of a set's answer are got back from its word
pub set_words : ((n : ℕ) → (set_word_of (Ok n) / 2 ^ 56 ≡ 0) × (set_word_of (Ok n) % 2 ^ 56 ≡ held n))
    × ((i : ℕ) (r : Refusal) → (set_word_of (Err (bad i r)) / 2 ^ 56 ≡ number_of r)
    × (set_word_of (Err (bad i r)) % 2 ^ 56 ≡ held i))
unfolding set_word_of
set_words = ((λ n. joined-parts 0 n), (λ i r. joined-parts (number_of r) i))
