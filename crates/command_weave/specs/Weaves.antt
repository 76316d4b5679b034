-- What is done with several recordings at once.
-- In order: rearrange_into; Rearranged.
-- Assumes nothing.
use Rattle.std.specs.Prelude.{List, ℕ}
use Rattle.answer.specs.Outcomes.{Outcome}
use Rattle.weaving.specs.Weaving.{weave_into, unweave_into}
use Rattle.command_outputs.specs.Results.{Gives}
use Rattle.command_arguments.specs.declared.OnRecordings.{OnRecordings}
use Rattle.command_arguments.specs.declared.OnRecordings.TheVariants.{Weave, Unweave}

-- D recordings in the words, woven or taken apart, with so much room
unfoldable pub rearrange_into : OnRecordings → ℕ → ℕ → List ℕ → Outcome (List ℕ)
rearrange_into Weave D room ws = weave_into D room ws
rearrange_into Unweave D room ws = unweave_into D room ws

-- some words are woven, or taken apart, with a result
pub record Rearranged (how : OnRecordings) : Type 0 where
  pub depth : ℕ
  pub room : ℕ
  pub words : List ℕ
  pub gives : Gives (rearrange_into how depth room words)
