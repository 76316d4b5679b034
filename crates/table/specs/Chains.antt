-- The place of a chain that an edge, or none, stands for.
-- In order: after.
-- Assumes nothing.
use Rattle.std.specs.Prelude.{ℕ, ◌+◌, Option, Some, None}

-- one more than the edge, or 0 where there is none
abbrev pub after : Option ℕ → ℕ
after None = 0
after (Some e) = e + 1
