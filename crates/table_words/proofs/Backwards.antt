-- A loop that goes along the chain of a word from its last edge to its first, at one place of what it makes: L is what
-- all edges give, a what those passed give, and f tests an edge still to come, below c.
-- In order: left-jump, left-more, left-done.
-- Assumes nothing.
use Rattle.std.proofs.Common.{◌≡◌, ◌||◌, ◌+◌}
use Rattle.laws.proofs.All.{refl, sym, ap, ◌∙◌, Bool, true, false, or-false, or_comm, ℕ}
use Rattle.table.specs.Marks.{some}
use Rattle.table.proofs.Marks.{none-start, some_more}

-- the last of three tests before the second
swap : (a b d : Bool) → (a || (b || d)) ≡ ((a || d) || b)
swap true b d = refl
swap false b d = or_comm b d

module _ (L a : Bool) (f : ℕ → Bool) where
  -- no edge between c' and c passes
  pub left-jump : (c c' : ℕ) → L ≡ (a || some f c) → some f c ≡ some f c' → L ≡ (a || some f c')
  left-jump c c' e j = e ∙ ap (λ b. a || b) j

  -- the edge e passed by
  pub left-more : (e : ℕ) (a' : Bool) → L ≡ (a || some f (e + 1)) → a' ≡ (a || f e) → L ≡ (a' || some f e)
  left-more e a' h m =
      h ∙ ap (λ b. a || b) (some_more f e) ∙ swap a (some f e) (f e) ∙ ap (λ b. b || some f e) (sym m)

  -- no edge is left
  pub left-done : (c : ℕ) → c ≡ 0 → L ≡ (a || some f c) → a ≡ L
  left-done c z e = sym (e ∙ ap (λ b. a || b) (ap (some f) z ∙ none-start f) ∙ or-false a)
