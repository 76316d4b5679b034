-- The order of a call's checks: "The answer names the refusal" of the first check that fails.
-- In order: Check; First.
-- Assumes nothing.
use Rattle.std.specs.Prelude.{◌≡◌, ◌⊎◌, List, [], ◌∷◌}
use Rattle.answer.specs.declared.Refusal.{Refusal}

-- one check: the refusal where what must hold does not
pub data Check : Type 1 where
  check : Refusal → Type 0 → Check

-- r is the refusal of the first check that fails: all before it hold
abbrev pub First : List Check → Refusal → Type 0
First [] r = ⊥
First (check s P ∷ cs) r = ((s ≡ r) × (P → ⊥)) ⊎ (P × First cs r)
