-- Words with a number, words in binary, and whether two texts are the same.
-- In order: told; digit, binary; same.
-- Assumes nothing.
use Rattle.std.specs.Prelude.{if◌then◌else◌, Bool, true, false, List, [], ◌∷◌, ◌++◌, map, ℕ, ◌+◌, eqb}
use Prim.Native.String.{String}
use Rattle.bits.specs.Fields.{bits}
use Rattle.text.specs.Texts.{bytes, decimal}

-- words and a number
abbrev pub told : String → ℕ → List ℕ
told w n = bytes w ++ decimal n

-- the byte of a digit
abbrev pub digit : ℕ → ℕ
digit d = 48 + d

-- "word in binary": q digits, first bit most significant
abbrev pub binary : ℕ → ℕ → List ℕ
binary q w = map digit (bits q w)

-- whether two texts have the same bytes
unfoldable pub same : List ℕ → List ℕ → Bool
same [] [] = true
same [] (y ∷ ys) = false
same (x ∷ xs) [] = false
same (x ∷ xs) (y ∷ ys) = let r = same xs ys in if eqb x y then r else false
