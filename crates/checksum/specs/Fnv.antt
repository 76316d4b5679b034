-- FNV-1a over 64 bits: for each byte exclusive or, then times 2^40 + 435, modulo 2^64.
-- In order: step; sum.
-- Assumes nothing.
use Rattle.std.specs.Prelude.{ℕ, ◌*◌, ◌%◌, ◌^◌, List, [], ◌∷◌, bit_xor}

-- the checksum x with one byte more
unfoldable pub step : ℕ → ℕ → ℕ
step x b = (bit_xor x b * 1099511628211) % 2 ^ 64

-- the checksum x with more bytes
abbrev pub sum : ℕ → List ℕ → ℕ
sum x [] = x
sum x (b ∷ bs) = sum (step x b) bs
