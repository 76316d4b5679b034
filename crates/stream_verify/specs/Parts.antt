-- A part of a stream's words, and how far the words of a stream come back in it.
-- In order: read_by, the code by which blocks are read; Held, the words of a part; Reaches, what a part answers.
-- Assumes nothing.
use Rattle.std.specs.Prelude.{◌≡◌, List, ℕ, ◌+◌, ◌-◌, ◌≤◌, ◌<◌, length, get_or, drop}
use Rattle.table.specs.Rows.{Code}
use Rattle.table.specs.Edges.{Arrays, rows_of}
use Rattle.codec_steps.specs.Reading.{block}
use Rattle.codec_steps.specs.BlockParts.{under}
use Rattle.codec_verify.specs.declared.Sizes.{Sizes}
use Rattle.codec_verify.specs.Counting.{agreed}
use Rattle.stream_verify.specs.declared.part.Part.{Part}
use Rattle.stream_verify.specs.declared.part.Reached.{Reached}

-- the code by which blocks are read: a table with these edges, and its window
abbrev pub read_by : Arrays → Sizes → Code
read_by t k = under (rows_of t) k.memory k.lookahead

-- the list M holds the words of U that belong to the part z, and the windows of their blocks
pub record Held (c : Code) (U M : List ℕ) (z : Part) : Type 0 where
  pub long : length U ≡ z.count
  pub before : z.base ≤ z.from
  pub room : (j : ℕ) → z.from ≤ j → j < z.end → j - z.base < length M
  pub words : (j : ℕ) → z.from ≤ j → j < z.end → get_or M (j - z.base) 0 ≡ get_or U j 0
  pub reach : (j : ℕ) → z.from ≤ j → j < z.end → j + c.window.lookahead < length U
      → j - z.base + c.window.lookahead < length M
  pub blocks : (j : ℕ) → z.from ≤ j → j < z.end → j + c.window.lookahead < length U
      → block c M (j - z.base) ≡ block c U j

-- from the first word of the part z on, the words ws come back up to the place and in the state that r has, and no
-- further where that place is in the part; ds are the data whose words they should be
pub record Reaches (t : Arrays) (ds ws : List ℕ) (z : Part) (r : Reached) : Type 0 where
  pub after : z.from ≤ r.place
  pub before : r.place ≤ z.end
  pub inside : r.state < t.states
  pub counted : z.from + agreed (rows_of t) t.ways z.state (drop z.from ds) (drop z.from ws)
      ≡ r.place + agreed (rows_of t) t.ways r.state (drop r.place ds) (drop r.place ws)
  pub stopped : r.place < z.end
      → agreed (rows_of t) t.ways r.state (drop r.place ds) (drop r.place ws) ≡ 0
