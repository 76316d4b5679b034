-- The words that come back, as the code counts them: by the numbers of a code and its arrays, from any state on.
-- In order: followed, the data whose words a list should have; agreed, how many words a path spells; sizes_of, the
-- numbers of a table; due_in, come_back, the same of edges and numbers.
-- Assumes nothing.
use Rattle.std.specs.Prelude.{List, ◌++◌, ℕ, length, replicate}
use Rattle.table.specs.declared.Table.{Table}
use Rattle.table.specs.Rows.{Rows}
use Rattle.table.specs.Paths.{spells}
use Rattle.table.specs.Edges.{Arrays, rows_of}
use Rattle.codec_steps.specs.Reading.{decode}
use Rattle.codec_steps.specs.BlockParts.{under}
use Rattle.codec_verify.specs.declared.Sizes.{Sizes}
use Rattle.codec_verify.specs.Fronts.{same_front, before_bad}

-- the blocks of the words under the table t with a window of memory m and lookahead a, then the tail datum a times
unfoldable pub followed : Rows → ℕ → ℕ → ℕ → List ℕ → List ℕ
followed t m a tail ws = decode (under t m a) ws ++ replicate a tail

-- how many of the words in front the path from state s with these data spells, up to the first that is not below n
unfoldable pub agreed : Rows → ℕ → ℕ → List ℕ → List ℕ → ℕ
agreed t n s ds ws = length (same_front (spells t s (before_bad n ds)) ws)

-- the numbers of a table
abbrev pub sizes_of : Table → Sizes
sizes_of t = record {
  q = t.q;
  memory = t.memory;
  lookahead = t.lookahead;
  tail = t.tail;
}

-- the data whose words the list ws should have under a table with these edges and numbers
abbrev pub due_in : Arrays → Sizes → List ℕ → List ℕ
due_in t k ws = followed (rows_of t) k.memory k.lookahead k.tail ws

-- how many words of ws come back under it
abbrev pub come_back : Arrays → Sizes → List ℕ → ℕ
come_back t k ws = agreed (rows_of t) t.ways 0 (due_in t k ws) ws
