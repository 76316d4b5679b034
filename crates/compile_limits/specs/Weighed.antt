-- The checks of a component before it is split.
-- In order: weighed.
-- Assumes nothing.
use Rattle.std.specs.Prelude.{Bool, not, ℕ, ltb, leb}
use Rattle.answer.specs.declared.Refusal.TheVariants.{NoCode, TooHeavy, TooManyEdges}
use Rattle.answer.specs.Outcomes.{Outcome, done, unless}

-- the sum of the weights, or "all weights 0", "component's weights sum over 128", "over 2,048 edges"
abbrev pub weighed : ℕ → Bool → Outcome ℕ
weighed total crowded =
    unless NoCode (ltb 0 total) (unless TooHeavy (leb total 128) (unless TooManyEdges (not crowded) (done total)))
