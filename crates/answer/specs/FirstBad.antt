-- The check of refusal 11, the same for blocks and for words.
-- In order: first_bad; all_below.
-- Assumes nothing.
use Rattle.std.specs.Prelude.{if◌then◌else◌, List, [], ◌∷◌, ℕ, suc, ltb, eqb, length}
use Rattle.answer.specs.declared.Refusal.TheVariants.{BadByte}
use Rattle.answer.specs.Outcomes.{Outcome, done, unless}

-- "the place of the first bad byte, counted from 0": the first that is not below n, or the length where there is none
abbrev pub first_bad : ℕ → List ℕ → ℕ
first_bad n [] = 0
first_bad n (x ∷ xs) = let r = suc (first_bad n xs) in if ltb x n then r else 0

-- "block ≥ 2^p, or word ≥ 2^q": the result, unless a byte is not below n
abbrev pub all_below : ℕ → List ℕ → List ℕ → Outcome (List ℕ)
all_below n xs result = unless (BadByte (first_bad n xs)) (eqb (first_bad n xs) (length xs)) (done result)
