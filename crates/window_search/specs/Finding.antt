-- The size that the code's answer stands for.
-- In order: found_size.
-- Assumes nothing.
use Rattle.std.specs.Prelude.{Option, Some, None}
use Rattle.table.specs.Rows.{Size}
use Rattle.window.specs.Search.{no_size}
use Rattle.window.specs.Steps.{size}
use Rattle.window_search.specs.declared.found.Window.{Window}

-- the size that the code's answer names, or the mark for none
abbrev pub found_size : Option Window → Size
found_size None = no_size
found_size (Some w) = size w.memory w.lookahead
