-- What the reading rule finds for a block: "Edges from that set with word i, whose target can read the next a words,
-- all carry one datum in an accepted table: that is the block."
-- In order: found.
-- Assumes nothing.
use Rattle.std.specs.Prelude.{List, ℕ, ◌+◌, get_or, take, drop}
use Rattle.table.specs.Rows.{Code}
use Rattle.codec_steps.specs.StateSets.{able}
use Rattle.codec_steps.specs.Reading.{readings, past}

-- the data of all edges from the past set of block i with word i, whose target can read the next a words
abbrev pub found : Code → List ℕ → ℕ → List ℕ
found c ws i =
    readings c.table (past c ws i) (get_or ws i 0) (able c.table (take c.window.lookahead (drop (i + 1) ws)))
