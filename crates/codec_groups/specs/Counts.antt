-- Numbers of edges, so that all groups have room.
-- In order: count, before.
-- Assumes nothing.
use Rattle.std.specs.Prelude.{if◌then◌else◌, ℕ, zero, suc, ◌+◌}
use Rattle.table.specs.Edges.{Arrays, bears}

-- the number of edges below b with the word w
unfoldable pub count : Arrays → ℕ → ℕ → ℕ
count t w zero = 0
count t w (suc b) = if bears t w b then suc (count t w b) else count t w b

-- the number of edges below b with a word below w
unfoldable pub before : Arrays → ℕ → ℕ → ℕ
before t zero b = 0
before t (suc w) b = before t w b + count t w b
