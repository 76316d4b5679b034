-- Constraints whose next states fit half a byte.
-- In order: Small.
-- Assumes nothing.
use Rattle.std.specs.Prelude.{◌≡◌, ℕ, ◌<◌}
use Rattle.constraint.specs.Walking.{none, Constraint, after}

-- each next state that there is is below 16
abbrev pub Small : Constraint → Type 0
Small c = (s b : ℕ) → (after c s b ≡ none → ⊥) → after c s b < 16
