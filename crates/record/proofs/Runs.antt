-- Rows of n numbers each, one after the other, are one range.
-- In order: map-range-add, flat.
-- Assumes nothing.
use Rattle.std.proofs.Common.{◌≡◌, ◌∷◌, ◌++◌, ◌+◌, ◌*◌}
use Rattle.laws.proofs.All.{sym, ap, ◌∙◌, List, [], map, append_assoc, append-nil, ℕ, zero, suc}
use Rattle.laws.proofs.All.{add-zero, zero-mul, suc-mul, add-one, arith, concat, range, map-range-more}
use Rattle.laws.proofs.All.{concat-more}

module _ {A : Type 0} (g : ℕ → A) where
  map-range-add : (a b : ℕ) → map g (range (a + b)) ≡ map g (range a) ++ map (λ d. g (a + d)) (range b)
  map-range-add a zero = ap (λ n. map g (range n)) (add-zero a) ∙ sym (append-nil (map g (range a)))
  map-range-add a (suc b) =
      let e : a + suc b ≡ a + b + 1 = omega arith in
      let h : ℕ → A = λ d. g (a + d) in
      ap (λ n. map g (range n)) e ∙ map-range-more g (a + b) ∙ ap (λ l. l ++ (g (a + b) ∷ [])) (map-range-add a b)
      ∙ append_assoc (map g (range a)) (map h (range b)) (g (a + b) ∷ [])
      ∙ ap (λ l. map g (range a) ++ l) (sym (map-range-more h b) ∙ ap (λ n. map h (range n)) (add-one b))

  -- s times n numbers in a row
  pub flat : (n s : ℕ) → concat (map (λ i. map (λ d. g (i * n + d)) (range n)) (range s)) ≡ map g (range (s * n))
  flat n zero = ap (λ m. map g (range m)) (sym (zero-mul n))
  flat n (suc s) =
      let f : ℕ → List A = λ i. map (λ d. g (i * n + d)) (range n) in
      let e : s * n + n ≡ suc s * n = omega (arith, suc-mul s n) in
      cc (add-one s, concat-more f s, flat n s, map-range-add (s * n) n)
