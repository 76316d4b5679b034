-- A loop that takes the members out of a set from the lowest on: what it has collected, and what is left.
-- In order: Walked, walk_start, walk-in, walk-next, walk-done.
-- Assumes nothing.
use Rattle.std.proofs.Common.{◌≡◌, ◌||◌, ◌∷◌}
use Rattle.laws.proofs.All.{sym, ap, subst, ◌∙◌, Bool, false, or_assoc, or-false, List, [], ℕ, any, Each}

-- of the list `all` the part `left` is still to come; Q holds of what is left, and `out` is what p gives for the others
pub record Walked (Q : ℕ → Type 0) (p : ℕ → ℕ → Bool) (all left : List ℕ) (out : ℕ → Bool) : Type 0 where
  pub within : Each Q left
  pub joined : (u : ℕ) → any (p u) all ≡ (out u || any (p u) left)

module _ (Q : ℕ → Type 0) (p : ℕ → ℕ → Bool) (all : List ℕ) where
  pub walk_start : (out : ℕ → Bool) → Each Q all → ((u : ℕ) → out u ≡ false) → Walked Q p all all out
  walk_start out h z = record { within = h; joined = λ u. ap (λ b. b || any (p u) all) (sym (z u)) }

  module _ (left : List ℕ) (out : ℕ → Bool) (k : Walked Q p all left out) where
    -- what holds of the first
    pub walk-in : (s : ℕ) (left' : List ℕ) → left ≡ s ∷ left' → Q s
    walk-in s left' e = (subst (Each Q) e k.within).0

    -- the first taken out
    pub walk-next : (s : ℕ) (left' : List ℕ) (out' : ℕ → Bool) → left ≡ s ∷ left'
        → ((u : ℕ) → out' u ≡ (out u || p u s)) → Walked Q p all left' out'
    walk-next s left' out' e o = record {
      within = (subst (Each Q) e k.within).1;
      joined = λ u.
          k.joined u ∙ ap (λ l. out u || any (p u) l) e ∙ sym (or_assoc (out u) (p u s) (any (p u) left'))
          ∙ ap (λ b. b || any (p u) left') (sym (o u));
    }

    -- all taken out
    pub walk-done : left ≡ [] → (u : ℕ) → out u ≡ any (p u) all
    walk-done e u = sym (k.joined u ∙ ap (λ l. out u || any (p u) l) e ∙ or-false (out u))
