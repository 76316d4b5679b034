-- Answers as numbers of 64 bits fit, and their parts are got back.
-- In order: number-le; joined-parts; word-parts, word-done, word-refused, word-numbers, words-apart.
-- Assumes nothing.
use Rattle.std.proofs.Common.{Result, Ok, Err}
use Rattle.std.proofs.Common.{◌≡◌, ◌+◌, ◌*◌, ◌/◌, ◌%◌, ◌^◌, ◌≤◌, ◌<◌}
use Rattle.laws.proofs.All.{sym, ap, ◌∙◌, List, ℕ, zero-add, add-zero, arith}
use Rattle.laws.proofs.All.{digits_div, digits_mod, length}
use Rattle.answer.specs.declared.Refusal.{Refusal}
use Rattle.answer.specs.declared.Refusal.TheVariants.{BadByte}
use Rattle.answer.specs.Refusals.{number_of, most, place_of}
use Rattle.answer.specs.Answers.{answer_number, answer_value}
use Rattle.answer.specs.Outcomes.{done, refused, answer_of}
use Rattle.answer.proofs.Cases.{number-some, number-most, place_none, same-refusal}
use Rattle.word.specs.Words.{held, joined, word_of}

pub number-le : (a : Result ℕ Refusal) → answer_number a ≤ most
number-le (Ok n) = omega arith
number-le (Err r) = number-most r

-- a number and a held value are got back from their word
pub joined-parts : (n v : ℕ) → (joined n v / 2 ^ 56 ≡ n) × (joined n v % 2 ^ 56 ≡ held v)
joined-parts n v = (digits_div n less, digits_mod n less)
  where
    less : held v < 72057594037927936
    less = omega arith

-- ---- of answers
pub word-parts : (a : Result ℕ Refusal) → (word_of a / 2 ^ 56 ≡ answer_number a) × (word_of a % 2 ^ 56 ≡ held (answer_value a))
unfolding word_of
word-parts a = joined-parts (answer_number a) (answer_value a)

pub word-done : (xs : List ℕ)
    → (word_of (answer_of (done xs)) / 2 ^ 56 ≡ 0) × (word_of (answer_of (done xs)) % 2 ^ 56 ≡ held (length xs))
word-done xs = word-parts (Ok (length xs))

pub word-refused : (r : Refusal) → (word_of (answer_of (refused r)) / 2 ^ 56 ≡ number_of r)
    × (word_of (answer_of (refused r)) % 2 ^ 56 ≡ held (place_of r)) × (1 ≤ number_of r) × (number_of r ≤ 17)
word-refused r = let (a, b) = word-parts (Err r) in (a, b, number-some r, number-most r)

-- THEOREM: the words in full, where the value is below 2^56
pub word-numbers : ((xs : List ℕ) → length xs < 2 ^ 56 → word_of (answer_of (done xs)) ≡ length xs)
    × ((k : ℕ) → k < 2 ^ 56 → word_of (answer_of (refused (BadByte k))) ≡ 11 * 2 ^ 56 + k)
    × ((r : Refusal) → (number_of r ≡ 11 → ⊥) → word_of (answer_of (refused r)) ≡ number_of r * 2 ^ 56)
unfolding word_of
word-numbers = (
  (λ xs h. whole 0 (length xs) h ∙ zero-add (length xs)),
  (λ k h. whole 11 k h),
  (λ r n. ap (joined (number_of r)) (place_none r n) ∙ add-zero (number_of r * 2 ^ 56)),
)
  where
    whole : (n v : ℕ) → v < 72057594037927936 → joined n v ≡ n * 72057594037927936 + v
    whole n v h = omega arith

same-held : (v w : ℕ) → v < 72057594037927936 → w < 72057594037927936 → held v ≡ held w → v ≡ w
same-held v w h k e = omega arith

-- answers with one number and one value are the same
same_answer : (a b : Result ℕ Refusal) → answer_number a ≡ answer_number b → answer_value a ≡ answer_value b → a ≡ b
same_answer (Ok n) (Ok m) e v = ap Ok v
same_answer (Ok n) (Err r) e v = absurd (omega (arith, number-some r))
same_answer (Err r) (Ok n) e v = absurd (omega (arith, number-some r))
same_answer (Err r) (Err s) e v = ap Err (same-refusal r s e v)

-- THEOREM: different answers have different words, where their values are below 2^56
pub words-apart : (a b : Result ℕ Refusal) → answer_value a < 2 ^ 56 → answer_value b < 2 ^ 56 → word_of a ≡ word_of b → a ≡ b
words-apart a b h k e =
    let (na, va) = word-parts a in
    let (nb, vb) = word-parts b in
    same_answer a b (sym na ∙ ap (λ w. w / 2 ^ 56) e ∙ nb)
    (same-held (answer_value a) (answer_value b) h k (sym va ∙ ap (λ w. w % 2 ^ 56) e ∙ vb))
