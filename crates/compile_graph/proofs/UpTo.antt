-- Those of the numbers below a bound that pass a test.
-- In order: up_to, up_to-yes, up_to-no; elem-kept, index_kept.
-- Assumes nothing.
use Rattle.std.proofs.Common.{◌≡◌, ◌∷◌, ◌++◌, ◌+◌, ◌-◌, ◌≤◌, ◌<◌, if◌then◌else◌}
use Rattle.laws.proofs.All.{refl, sym, ap, ◌∙◌, Bool, true, false, List, [], append-nil, ℕ, zero}
use Rattle.laws.proofs.All.{suc, arith, ℕ_discrete, eq-eqb, ne_eqb, length, from}
use Rattle.laws.proofs.All.{range, filter, elem, index_of, bool_eq, elem-filter, →elem-filter, elem-range}
use Rattle.laws.proofs.All.{range-more, filter-append}

module _ (q : ℕ → Bool) where
  abbrev pub up_to : ℕ → List ℕ
  up_to i = filter q (range i)

  up_to-snoc : (i : ℕ) → up_to (i + 1) ≡ up_to i ++ filter q (i ∷ [])
  up_to-snoc i = ap (filter q) (range-more i) ∙ filter-append q (range i) (i ∷ [])

  pub up_to-yes : (i : ℕ) → q i ≡ true → up_to (i + 1) ≡ up_to i ++ (i ∷ [])
  up_to-yes i e = up_to-snoc i ∙ ap (λ b. up_to i ++ (if b then i ∷ [] else [])) e

  pub up_to-no : (i : ℕ) → q i ≡ false → up_to (i + 1) ≡ up_to i
  up_to-no i e = up_to-snoc i ∙ ap (λ b. up_to i ++ (if b then i ∷ [] else [])) e ∙ append-nil (up_to i)

  pub elem-kept : (k t : ℕ) → t < k → elem t (up_to k) ≡ q t
  elem-kept k t h =
      bool_eq (elem t (up_to k)) (q t) (λ u. (elem-filter q t (range k) u).0)
      (λ u. →elem-filter q t (range k) (elem-range k t h) u)

  index-from : (n i t : ℕ) → i ≤ t → t < i + n → q t ≡ true
      → index_of t (filter q (from i n)) ≡ length (filter q (from i (t - i)))
  index-from zero i t h l e = absurd (omega arith)
  index-from (suc n) i t h l e = go (ℕ_discrete i t) (λ a b. index-from n (suc i) t a b e)
    where
      at : (b : Bool) → q i ≡ b → i ≡ t
          → index_of t (if b then i ∷ filter q (from (suc i) n) else filter q (from (suc i) n)) ≡ 0
      at true u p = ap (λ b. if b then 0 else suc (index_of t (filter q (from (suc i) n)))) (eq-eqb t i (sym p))
      at false u p = absurd (let y : true ≡ false = sym e ∙ ap q (sym p) ∙ u in let z : ◌≡◌ {A = ℕ} 0 1 = cc in
          omega arith)

      past : (b : Bool) → (i ≡ t → ⊥)
          → index_of t (filter q (from (suc i) n)) ≡ length (filter q (from (suc i) (t - suc i)))
          → index_of t (if b then i ∷ filter q (from (suc i) n) else filter q (from (suc i) n))
          ≡ length (if b then i ∷ filter q (from (suc i) (t - suc i)) else filter q (from (suc i) (t - suc i)))
      past true p r = cc (ne_eqb t i (λ z. p (sym z)))
      past false p r = r

      go : Dec (i ≡ t)
          → (suc i ≤ t → t < suc i + n → index_of t (filter q (from (suc i) n))
          ≡ length (filter q (from (suc i) (t - suc i))))
          → index_of t (filter q (from i (suc n))) ≡ length (filter q (from i (t - i)))
      go (yes p) r =
          let z : t - i ≡ 0 = omega arith in at (q i) refl p ∙ ap (λ m. length (filter q (from i m))) (sym z)
      go (no p) r =
          let z : t - i ≡ suc (t - suc i) = omega arith in
          past (q i) p (r (omega arith) (omega arith)) ∙ ap (λ m. length (filter q (from i m))) (sym z)

  pub index_kept : (k t : ℕ) → t < k → q t ≡ true → index_of t (up_to k) ≡ length (up_to t)
  index_kept k t h e =
      let z : t - 0 ≡ t = omega arith in
      index-from k 0 t (omega arith) (omega arith) e ∙ ap (λ m. length (filter q (from 0 m))) z
