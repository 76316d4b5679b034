-- Lists spread over an array, as the code does it: one list after the other, each over all rows.
-- In order: Spread.
-- Assumes nothing.
use Rattle.std.specs.Prelude.{◌≡◌, List, ℕ, ◌+◌, ◌*◌, ◌<◌, length, get_or}

-- the first n elements of list r, of lists of `b` elements each in ws, stand at places i × a + r of S, and every other
-- place of S holds what it held in R
pub record Spread (a b r n : ℕ) (ws R S : List ℕ) : Type 0 where
  pub long : length S ≡ length R
  pub put : (i : ℕ) → i < n → get_or S (i * a + r) 0 ≡ get_or ws (r * b + i) 0
  pub kept : (x : ℕ) → ((i : ℕ) → i < n → x ≡ i * a + r → ⊥) → get_or S x 0 ≡ get_or R x 0
