-- Text in lent bytes, and numbers as text.
-- In order: bytes, of a quoted text; size, how many digits a number has; decimal, hex; Added, a text put after
-- another.
-- Assumes nothing.
use Rattle.std.specs.Prelude.{if◌then◌else◌, ◌≡◌, List, [], ◌∷◌, ◌++◌, ℕ, zero, suc, ◌/◌, min, max, ltb, length, take}
use Rattle.std.specs.Prelude.{drop}
use Prim.Native.Char.{code}
use Prim.Native.String.{String, [] as []ˢ, ◌∷◌ as ◌∷ˢ◌}
use Rattle.io.specs.Counts.{IsPrefixLen}
use Rattle.io.specs.Digits.{last_digits}

-- the bytes of a quoted text of ASCII
abbrev pub bytes : String → List ℕ
bytes []ˢ = []
bytes (c ∷ˢ s) = code c ∷ bytes s

-- how many digits n has in base b, at most k
abbrev pub size : ℕ → ℕ → ℕ → ℕ
size b zero n = 0
size b (suc k) n = let more = suc (size b k (n / b)) in if ltb n b then 1 else more

-- a number below 2^64 in decimal
unfoldable pub decimal : ℕ → List ℕ
decimal n = last_digits 10 (size 10 20 n) n

-- a number below 2^64 in hexadecimal, with zeros in front up to w digits, which count as from 1 to 16
unfoldable pub hex : ℕ → ℕ → List ℕ
hex w n = last_digits 16 (max (min (max w 1) 16) (size 16 16 n)) n

-- the bytes B became C, as many: the first r of them are the first `at` of B and after these the text, as far as
-- there is room, and the bytes from r on stay
pub record Added (text : List ℕ) (at : ℕ) (B C : List ℕ) (r : ℕ) : Type 0 where
  pub written : take r C ≡ take (length B) (take at B ++ text)
  pub counts : IsPrefixLen r C
  pub kept : length C ≡ length B
  pub behind : drop r C ≡ drop r B
