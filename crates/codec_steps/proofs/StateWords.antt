-- The words that step a set of states, one by one.
-- In order: along-first, along-end; able-first, able-end.
-- Assumes nothing.
use Rattle.std.proofs.Common.{◌≡◌, ◌∷◌, ◌+◌, ◌≤◌, ◌<◌}
use Rattle.laws.proofs.All.{sym, ap, ◌∙◌, Bool, List, ℕ, add-one, length, get_or}
use Rattle.laws.proofs.All.{slice, slice-cons, slice_empty}
use Rattle.table.specs.Rows.{Rows}
use Rattle.codec_steps.specs.StateSets.{every_state, along, along_all, back, able}

module _ (t : Rows) (ws : List ℕ) where
  slice_first : (j to : ℕ) → j < to → to ≤ length ws → slice j to ws ≡ get_or ws j 0 ∷ slice (j + 1) to ws
  slice_first j to h l = slice-cons j to ws 0 h l ∙ ap (λ k. get_or ws j 0 ∷ slice k to ws) (sym (add-one j))

  pub along-first : (S : List Bool) (j to : ℕ) → j < to → to ≤ length ws
      → along_all t S (slice j to ws) ≡ along_all t (along t S (get_or ws j 0)) (slice (j + 1) to ws)
  along-first S j to h l = ap (along_all t S) (slice_first j to h l)

  pub along-end : (S : List Bool) (to : ℕ) → along_all t S (slice to to ws) ≡ S
  along-end S to = ap (along_all t S) (slice_empty to ws)

  pub able-first : (j to : ℕ) → j < to → to ≤ length ws
      → able t (slice j to ws) ≡ back t (able t (slice (j + 1) to ws)) (get_or ws j 0)
  able-first j to h l = ap (able t) (slice_first j to h l)

  pub able-end : (to : ℕ) → able t (slice to to ws) ≡ every_state t
  able-end to = ap (able t) (slice_empty to ws)
