-- The lines of a text, byte by byte.
-- In order: end-here, end_on, end_none; rest-next.
-- Assumes nothing.
use Rattle.std.proofs.Common.{◌≡◌, ◌+◌, ◌≤◌, ◌<◌}
use Rattle.laws.proofs.All.{sym, ap, ◌∙◌, List, ℕ, suc, min, add-one}
use Rattle.laws.proofs.All.{arith, eq-eqb, ne_eqb, length, get_or, drop, drop_of_length-le, drop-cons}
use Rattle.laws.proofs.All.{drop-drop, drop_min}
use Rattle.view_refusals.specs.TextLines.{line_end, rest}

module _ (xs : List ℕ) (i : ℕ) where
  pub end-here : i < length xs → get_or xs i 0 ≡ 10 → line_end (drop i xs) ≡ 0
  end-here h e = rw (drop-cons xs i 0, eq-eqb _ _ e)

  pub end_on : i < length xs → (get_or xs i 0 ≡ 10 → ⊥) → line_end (drop i xs) ≡ suc (line_end (drop (i + 1) xs))
  end_on h e = rw (drop-cons xs i 0, ne_eqb _ _ e, add-one)

  pub end_none : length xs ≤ i → line_end (drop i xs) ≡ 0
  end_none h = ap line_end (drop_of_length-le xs h)

-- the place after the line at `from` is where the text without one line more starts
pub rest-next : (xs : List ℕ) (i from end to : ℕ) → drop from xs ≡ rest i xs → end ≡ from + line_end (drop from xs)
    → to ≡ min (end + 1) (length xs) → drop to xs ≡ rest (i + 1) xs
rest-next xs i from end to p e f =
    let k : end + 1 ≡ from + suc (line_end (drop from xs)) = omega arith in
    ap (λ m. drop m xs) f ∙ drop_min (end + 1) xs ∙ ap (λ m. drop m xs) k
    ∙ sym (drop-drop (suc (line_end (drop from xs))) from xs) ∙ ap (λ ys. drop (suc (line_end ys)) ys) p
    ∙ ap (λ m. rest m xs) (sym (add-one i))
