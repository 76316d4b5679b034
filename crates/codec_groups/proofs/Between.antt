-- Laws of tests over the numbers from one bound on and below another.
-- In order: between_none, between-empty, between_more; between→, →between.
-- Assumes nothing.
use Rattle.std.proofs.Common.{◌≡◌, ◌||◌, ◌+◌, ◌-◌, ◌≤◌, ◌<◌}
use Rattle.laws.proofs.All.{ap, subst, ◌∙◌, Bool, false, or-false, ℕ, arith, T, any}
use Rattle.laws.proofs.All.{from, any→, →any, any_append, length_from}
use Rattle.laws.proofs.Tests.{get_or-from}
use Rattle.laws.proofs.Ranges.{from-append}
use Rattle.codec_groups.specs.Groups.{between}

module _ (f : ℕ → Bool) where
  -- there is no number where the bounds meet or cross
  pub between-empty : (i j : ℕ) → j ≤ i → between f i j ≡ false
  unfolding between
  between-empty i j h = let e : j - i ≡ 0 = omega arith in ap (λ n. any f (from i n)) e

  pub between_none : (i : ℕ) → between f i i ≡ false
  between_none i = between-empty i i (omega arith)

  -- one number more
  pub between_more : (i j : ℕ) → i ≤ j → between f i (j + 1) ≡ (between f i j || f j)
  unfolding between
  between_more i j h =
      let a : j + 1 - i ≡ j - i + 1 = omega arith in
      let b : i + (j - i) ≡ j = omega arith in
      ap (λ n. any f (from i n)) a ∙ ap (any f) (from-append i (j - i) 1)
      ∙ any_append f (from i (j - i)) (from (i + (j - i)) 1) ∙ ap (λ k. any f (from i (j - i)) || any f (from k 1)) b
      ∙ ap (λ x. any f (from i (j - i)) || x) (or-false (f j))

  -- the number that passes
  pub between→ : (i j : ℕ) → T (between f i j) → (k : ℕ) × (i ≤ k) × (k < j) × T (f k)
  unfolding between
  between→ i j t =
      let (x, h, u) = any→ f 0 (from i (j - i)) t in
      let l : x < j - i = omega (arith, length_from i (j - i)) in
      (i + x, omega arith, omega arith, subst (λ y. T (f y)) (get_or-from i (j - i) x 0 l) u)

  pub →between : (i j k : ℕ) → i ≤ k → k < j → T (f k) → T (between f i j)
  unfolding between
  →between i j k h l t =
      let a : k - i < j - i = omega arith in
      let b : i + (k - i) ≡ k = omega arith in
      →any f 0 (from i (j - i)) (k - i) (omega (arith, length_from i (j - i)))
      (rw (get_or-from i (j - i) (k - i) 0 a, b) t)
