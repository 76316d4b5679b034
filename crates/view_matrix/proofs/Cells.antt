-- The matrix of the code that a table stands for.
-- In order: column-is, row_small, row_is; row-none, row_more; words-few, heading-is, matrix-is.
-- Assumes nothing.
use Rattle.std.proofs.Common.{◌≡◌, ◌++◌, ◌+◌, ◌*◌, ◌^◌, ◌≤◌}
use Rattle.laws.proofs.All.{refl, sym, ap, ◌∙◌, List, [], ℕ, mul-le-mul, arith}
use Rattle.laws.proofs.All.{pow_mono, concat-more}
use Rattle.table.specs.declared.Table.{Table}
use Rattle.table.specs.Edges.{lent}
use Rattle.table.specs.Value.{code_in}
use Rattle.table.proofs.RowsOf.{length-rows}
use Rattle.text.specs.Texts.{bytes}
use Rattle.view_listing.specs.Edges.{lines_to}
use Rattle.view_matrix.specs.Matrix.{column_x, row_y, column_text, cell, in_row, sizes, heading, axes, matrix}
use Rattle.view_listing.proofs.Edges.{lines_are}

-- ---- places
pub column-is : (w : ℕ) → w ≤ 256 → (48 + w * 168 ≡ column_x w) × (48 + w * 168 ≤ 43056)
unfolding column_x
column-is w h = (refl, omega arith)

pub row_small : (n s : ℕ) → n ≤ 16 → s ≤ 128 → s * (n * 3 + 12) ≤ 7680
row_small n s h k = mul-le-mul {n₁ = s} {m₁ = n * 3 + 12} {n₂ = 128} {m₂ = 60} k (omega arith)

pub row_is : (n s : ℕ) → n ≤ 16 → s ≤ 128 → (60 + s * (n * 3 + 12) ≡ row_y n s) × (60 + s * (n * 3 + 12) ≤ 7740)
unfolding row_y
row_is n s h k = (refl, omega (arith, row_small n s h k))

-- ---- texts in a row
pub row-none : (f : ℕ → List ℕ) → [] ≡ in_row f 0
unfolding in_row
row-none f = refl

pub row_more : (f : ℕ → List ℕ) (n : ℕ) → in_row f n ++ f n ≡ in_row f (n + 1)
unfolding in_row
row_more f n = sym (concat-more f n)

-- ---- the matrix
pub words-few : (q w : ℕ) → q ≤ 8 → w ≡ 2 ^ q → w ≤ 256
words-few q w h e = omega (arith, pow_mono {i = q} {j = 8} h)

pub heading-is : (q n states x y w : ℕ) → x ≡ column_x w → y ≡ row_y n states → w ≡ 2 ^ q
    → sizes x y states ++ in_row (column_text q) w ≡ heading q n states
unfolding heading
heading-is q n states x y w e f g = rw (e, f, g)

-- THEOREM: the matrix has its axes, all edges in order and its end
pub matrix-is : (t : Table) (n : ℕ) → n ≡ 2 ^ t.p
    → axes t.q n t.states ++ lines_to (cell n) t (t.states * n) ++ bytes "</svg>\n" ≡ matrix (code_in t)
unfolding matrix
matrix-is t n p =
    ap (λ l. axes t.q n t.states ++ l ++ bytes "</svg>\n") (lines_are (cell n) t n p)
    ∙ rw (p, length-rows (lent t))
