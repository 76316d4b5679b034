-- The states at which weights that are brought fail.
-- In order: over, unmet; unmet_by, by the counts of words.
-- Assumes nothing.
use Rattle.std.specs.Prelude.{Bool, not, List, ℕ, ltb, get_or}
use Rattle.compile_graph.specs.Arcs.{Arc}
use Rattle.compile_graph.specs.Weights.{low, meets}
use Rattle.compile_weights.specs.PowerTable.{lower_by}

-- the weight of state s is over cap
abbrev pub over : ℕ → List ℕ → ℕ → Bool
over cap v s = not (low cap v s)

-- the inequality fails at state s
abbrev pub unmet : ℕ → List Arc → List ℕ → ℕ → Bool
unmet n g v s = not (meets n g v s)

-- a round lowers the weight of state s
abbrev pub unmet_by : List ℕ → List ℕ → ℕ → ℕ → ℕ → Bool
unmet_by A v k n s = ltb (lower_by A v k s n) (get_or v s 0)
