-- The search for the first number below K at which a test passes, which ends at K where there is none.
-- In order: first-within, first_found; all_first; first-same, all_same, of two tests that agree below K.
-- Assumes nothing.
use Rattle.std.proofs.Common.{◌≡◌, ◌||◌, ◌∷◌, ◌≤◌, ◌<◌, if◌then◌else◌}
use Rattle.laws.proofs.All.{refl, sym, ap₂, subst, ◌∙◌, Bool, true, false, not, List, [], ℕ}
use Rattle.laws.proofs.All.{le_of_eq, arith, T, eqb, eq-eqb, ne_eqb, not-true, not-false, range, all}
use Rattle.laws.proofs.All.{any, first, bool_eq, T→true, all-below→, →all-below, →any-below, all-range-true}
use Rattle.laws.proofs.All.{all-range-false, first-range-none, first_passes, each_map, each-range}
use Rattle.laws.specs.Sums.{Each}

module _ (q : ℕ → Bool) (K : ℕ) where
  here : T (any q (range K)) → T (q (first q K (range K))) × (first q K (range K) < K)
  here t = first_passes q K (λ s. s < K) (range K) t (each-range K)

  none : any q (range K) ≡ false → (s : ℕ) → s < K → q s ≡ false
  none e s h = go (q s) refl
    where
      go : (b : Bool) → q s ≡ b → q s ≡ false
      go true f = absurd (subst T e (→any-below q K s h (subst T (sym f) tt)))
      go false f = f

  pub first-within : first q K (range K) ≤ K
  first-within = go (any q (range K)) refl
    where
      go : (b : Bool) → any q (range K) ≡ b → first q K (range K) ≤ K
      go true e = let (_, h) = here (subst T (sym e) tt) in omega arith
      go false e = le_of_eq (first-range-none q K K (none e))

  -- what stands for none does not matter where there is one
  default : (d e : ℕ) (l : List ℕ) → T (any q l) → first q d l ≡ first q e l
  default d e [] t = absurd t
  default d e (x ∷ l) t = go (q x) t (default d e l)
    where
      go : (b : Bool) → T (b || any q l) → (T (any q l) → first q d l ≡ first q e l)
          → (if b then x else first q d l) ≡ (if b then x else first q e l)
      go true u f = refl
      go false u f = f u

  pub first_found : (d : ℕ) → first q K (range K) < K → first q d (range K) ≡ first q K (range K)
  first_found d h = go (any q (range K)) refl
    where
      go : (b : Bool) → any q (range K) ≡ b → first q d (range K) ≡ first q K (range K)
      go true e = default d K (range K) (subst T (sym e) tt)
      go false e = absurd (omega (arith, first-range-none q K K (none e)))

  -- THEOREM: a test holds of all numbers below K exactly when the search for one where it fails ends at K
  pub all_first : (p : ℕ → Bool) → ((s : ℕ) → s < K → q s ≡ not (p s)) → all p (range K) ≡ eqb (first q K (range K)) K
  all_first p opposite = go (any q (range K)) refl
    where
      go : (b : Bool) → any q (range K) ≡ b → all p (range K) ≡ eqb (first q K (range K)) K
      go true e =
          let s = first q K (range K) in
          let (t, h) = here (subst T (sym e) tt) in
          all-range-false p K s h (not-true (p s) (sym (opposite s h) ∙ T→true (q s) t))
          ∙ sym (ne_eqb s K (λ i. omega arith))
      go false e =
          all-range-true p K (λ s h. not-false (p s) (sym (opposite s h) ∙ none e s h))
          ∙ sym (eq-eqb (first q K (range K)) K (first-range-none q K K (none e)))

-- ---- two tests that agree below K
module _ (p q : ℕ → Bool) where
  each_same : (d : ℕ) (l : List ℕ) → Each (λ s. p s ≡ q s) l → first p d l ≡ first q d l
  each_same d [] h = refl
  each_same d (x ∷ l) h = ap₂ (λ b r. if b then x else r) h.0 (each_same d l h.1)

  pub first-same : (d K : ℕ) → ((s : ℕ) → s < K → p s ≡ q s) → first p d (range K) ≡ first q d (range K)
  first-same d K h = each_same d (range K) (each_map (λ s. s < K) (λ s. p s ≡ q s) h (range K) (each-range K))

  pub all_same : (K : ℕ) → ((s : ℕ) → s < K → p s ≡ q s) → all p (range K) ≡ all q (range K)
  all_same K h =
      bool_eq (all p (range K)) (all q (range K))
      (λ t. →all-below q K (λ s l. subst T (h s l) (all-below→ p K t s l)))
      (λ t. →all-below p K (λ s l. subst T (sym (h s l)) (all-below→ q K t s l)))
