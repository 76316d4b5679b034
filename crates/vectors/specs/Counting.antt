-- How cases that differ are counted, and where the file ends.
-- In order: Few, counts that are small; Counted, a tally with one case more; ends_at.
-- Assumes nothing.
use Rattle.std.specs.Prelude.{◌≡◌, ℕ, ◌+◌, ◌-◌, ◌≤◌, Bool, ◌&&◌, List, length, ◌==◌, slice_index}
use Rattle.cases.specs.declared.Case.{Case}
use Rattle.vectors.specs.declared.walk.Tally.{Tally}

-- at most one case for each byte that was passed
pub record Few (t : Tally) : Type 0 where
  pub cases : t.cases ≤ t.at
  pub wrong : t.wrong ≤ t.at

-- r is the tally t with the case c more, and `more` cases more that differ
pub record Counted (t : Tally) (c : Case) (more : ℕ) (r : Tally) : Type 0 where
  pub at : r.at ≡ c.end
  pub cases : r.cases ≡ t.cases + 1
  pub wrong : r.wrong ≡ t.wrong + more

-- the file ends behind this place, with the kind 0
abbrev pub ends_at : ℕ → List ℕ → Bool
ends_at at bytes = length bytes - at == 1 && slice_index bytes at == 0
