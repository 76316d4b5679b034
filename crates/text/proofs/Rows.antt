-- Texts of numbers in a row.
-- In order: rows_short.
-- Assumes nothing.
use Rattle.std.proofs.Common.{◌≡◌, ◌+◌, ◌*◌, ◌≤◌, ◌<◌}
use Rattle.laws.proofs.All.{ap, subst, ◌∙◌, List, map, ℕ, zero, suc, arith, length}
use Rattle.laws.proofs.All.{length-append, range, concat, concat-more}

-- n texts of at most k bytes
pub rows_short : (f : ℕ → List ℕ) (k n : ℕ) → ((i : ℕ) → i < n → length (f i) ≤ k)
    → length (concat (map f (range n))) ≤ k * n
rows_short f k zero h = omega arith
rows_short f k (suc n) h =
    let e : n + 1 ≡ suc n = omega arith in
    let more = ap length (concat-more f n) ∙ length-append (concat (map f (range n))) (f n) in
    let less = rows_short f k n (λ i l. h i (omega arith)) in
    let one = h n (omega arith) in
    let g : length (concat (map f (range (n + 1)))) ≤ k * suc n = omega arith in
    subst (λ m. length (concat (map f (range m))) ≤ k * suc n) e g
