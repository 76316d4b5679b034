-- The checks of a component, one by one.
-- In order: weighed-none, weighed-heavy, weighed-crowded, weighed-whole; weighed-by, all of them at once.
-- Assumes nothing.
use Rattle.std.proofs.Common.{◌≡◌, ◌≤◌, ◌<◌}
use Rattle.laws.proofs.All.{refl, sym, ap, subst, ◌∙◌, Bool, true, false, not, ℕ, arith, lt-ltb, le-ltb}
use Rattle.laws.proofs.All.{ltb-true, ltb-false, le-leb, lt-leb, leb-true, leb-false, ltb, leb}
use Rattle.answer.specs.declared.Refusal.TheVariants.{NoCode, TooHeavy, TooManyEdges}
use Rattle.answer.specs.Outcomes.{Outcome, done, refused, unless}
use Rattle.compile_limits.specs.Weighed.{weighed}

module _ (total : ℕ) (crowded : Bool) where
  abbrev few_edges : Outcome ℕ
  few_edges = unless TooManyEdges (not crowded) (done total)

  abbrev light : Outcome ℕ
  light = unless TooHeavy (leb total 128) few_edges

  pub weighed-none : total ≡ 0 → weighed total crowded ≡ refused NoCode
  weighed-none e = ap (λ b. unless NoCode b light) (le-ltb 0 total (omega arith))

  module _ (h : 0 < total) where
    some : weighed total crowded ≡ light
    some = ap (λ b. unless NoCode b light) (lt-ltb 0 total h)

    pub weighed-heavy : 128 < total → weighed total crowded ≡ refused TooHeavy
    weighed-heavy l = some ∙ ap (λ b. unless TooHeavy b few_edges) (lt-leb total 128 l)

    module _ (l : total ≤ 128) where
      passed : weighed total crowded ≡ few_edges
      passed = some ∙ ap (λ b. unless TooHeavy b few_edges) (le-leb total 128 l)

      pub weighed-crowded : crowded ≡ true → weighed total crowded ≡ refused TooManyEdges
      weighed-crowded e = passed ∙ ap (λ b. unless TooManyEdges (not b) (done total)) e

      pub weighed-whole : crowded ≡ false → weighed total crowded ≡ done total
      weighed-whole e = passed ∙ ap (λ b. unless TooManyEdges (not b) (done total)) e

  -- what holds in each case holds of the outcome
  pub weighed-by : (P : Outcome ℕ → Type 0) → (total ≡ 0 → P (refused NoCode))
      → (0 < total → 128 < total → P (refused TooHeavy))
      → (0 < total → total ≤ 128 → crowded ≡ true → P (refused TooManyEdges))
      → (0 < total → total ≤ 128 → crowded ≡ false → P (done total)) → P (weighed total crowded)
  weighed-by P none heavy edged whole =
      go (ltb 0 total) refl (leb total 128) refl crowded refl
    where
      go : (a : Bool) → ltb 0 total ≡ a → (b : Bool) → leb total 128 ≡ b → (c : Bool) → crowded ≡ c
          → P (weighed total crowded)
      go false p b q c r =
          let z : total ≡ 0 = omega (arith, ltb-false 0 total p) in
          subst P (sym (weighed-none z)) (none z)
      go true p false q c r =
          let h = ltb-true 0 total p in
          let l = leb-false total 128 q in
          subst P (sym (weighed-heavy h l)) (heavy h l)
      go true p true q true r =
          let h = ltb-true 0 total p in
          let l = leb-true total 128 q in
          subst P (sym (weighed-crowded h l r)) (edged h l r)
      go true p true q false r =
          let h = ltb-true 0 total p in
          let l = leb-true total 128 q in
          subst P (sym (weighed-whole h l r)) (whole h l r)
