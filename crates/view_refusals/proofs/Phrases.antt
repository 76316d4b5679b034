-- The condition of a refusal is the words of its number, with the place or alone.
-- In order: with-place; alone.
-- Assumes nothing.
use Rattle.std.proofs.Common.{◌≡◌, ◌++◌}
use Rattle.laws.proofs.All.{sym, ap, ap₂, ◌∙◌, append-nil, ℕ, eq-eqb, ne_eqb}
use Rattle.answer.specs.declared.Refusal.{Refusal}
use Rattle.answer.specs.Refusals.{number_of, place_of}
use Rattle.text.specs.Texts.{decimal}
use Rattle.view_refusals.specs.Phrases.{words_of, phrase_of}

module _ (r : Refusal) (n : ℕ) (e : n ≡ number_of r) where
  pub with-place : (p : ℕ) → n ≡ 11 → p ≡ place_of r → words_of n ++ decimal p ≡ phrase_of r
  unfolding phrase_of
  with-place p f g = rw (eq-eqb (number_of r) 11 (sym e ∙ f)) (ap₂ (λ a b. words_of a ++ decimal b) e g)

  pub alone : (n ≡ 11 → ⊥) → words_of n ≡ phrase_of r
  unfolding phrase_of
  alone h = rw (ne_eqb (number_of r) 11 (λ x. h (e ∙ x))) (ap words_of e ∙ sym (append-nil (words_of (number_of r))))
