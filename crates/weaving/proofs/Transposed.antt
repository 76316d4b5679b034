-- Arrays read by columns: where each element goes, and that reading across twice gives the array back.
-- In order: in_array, rows_in; cell, length-transposed, transposed-at; columns; transposed-back.
-- Assumes nothing.
use Rattle.std.proofs.Common.{◌≡◌, ◌+◌, ◌*◌, ◌/◌, ◌%◌, ◌≤◌, ◌<◌}
use Rattle.laws.proofs.All.{sym, ap, ap₂, subst, ◌∙◌, List, ℕ, zero, suc, arith}
use Rattle.laws.proofs.All.{mul_comm, mul-le-mul_right, div-add-mod', div-lt_iff_lt-mul, mod-lt, length, get_or}
use Rattle.laws.proofs.All.{ext_get_or}
use Rattle.laws.proofs.All.{length-map-range, map-range-at, quotient-of, remainder_of, place-lt}
use Rattle.weaving.specs.Weaving.{transposed_at, transposed}

-- element r of row j lies in an array of b rows, a elements each
pub in_array : (a b r j : ℕ) → r < a → j < b → j * a + r < a * b
in_array a b r j h g = subst (λ n. j * a + r < n) (mul_comm b a) (place-lt b a j r g h)

-- the first j + 1 rows lie in it
pub rows_in : (a b j : ℕ) → j < b → j * a + a ≤ a * b
rows_in a b j h = omega (arith, mul_comm b a, mul-le-mul_right {m = j + 1} {n = b} a (omega arith))

module _ (a b : ℕ) (ws : List ℕ) where
  -- element j of list r comes to place j × a + r
  pub cell : (r j : ℕ) → r < a → transposed_at a b ws (j * a + r) ≡ get_or ws (r * b + j) 0
  cell r j h = ap₂ (λ x y. get_or ws (x * b + y) 0) (remainder_of a j r h) (quotient-of a j r h)

  pub length-transposed : length (transposed a b ws) ≡ a * b
  unfolding transposed
  length-transposed = length-map-range (transposed_at a b ws) (a * b)

  pub transposed-at : (r j : ℕ) → r < a → j < b → get_or (transposed a b ws) (j * a + r) 0 ≡ get_or ws (r * b + j) 0
  unfolding transposed
  transposed-at r j h g =
      map-range-at (transposed_at a b ws) (a * b) (j * a + r) 0 (in_array a b r j h g) ∙ cell r j h

-- an array with a place has a column
pub columns : (a b i : ℕ) → i < a * b → 0 < b
columns a zero i h = absurd (omega arith)
columns a (suc b) i h = omega arith

-- reading across twice
pub transposed-back : (a b : ℕ) (ws : List ℕ) → length ws ≡ a * b → transposed b a (transposed a b ws) ≡ ws
transposed-back a b ws e =
    let T = transposed a b ws in
    ext_get_or 0 (transposed b a T) ws (length-transposed b a T ∙ mul_comm b a ∙ sym e)
    (λ i h.
    let l : i < a * b = subst (λ n. i < n) (length-transposed b a T ∙ mul_comm b a) h in
    let b₀ : 0 < b = columns a b i l in
    let q : i / b < a = (div-lt_iff_lt-mul {k = b} {x = i} {y = a} b₀).1 l in
    let s : i % b < b = mod-lt i b₀ in
    let m : i / b * b + i % b ≡ i = div-add-mod' i b in
    ap (λ n. get_or (transposed b a T) n 0) (sym m) ∙ transposed-at b a T (i % b) (i / b) s q
    ∙ transposed-at a b ws (i / b) (i % b) q s ∙ ap (λ n. get_or ws n 0) m)
