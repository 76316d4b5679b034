-- What the marks say of paths: "whether a block is dark because of what went before".
-- In order: window_words, the words about a block; Follows, a path that reads them.
-- Assumes nothing.
use Rattle.std.specs.Prelude.{if◌then◌else◌, ◌≡◌, List, ℕ, ◌+◌, ◌-◌, ◌<◌, ltb, length, take, drop}
use Rattle.table.specs.Rows.{Code}
use Rattle.table.specs.Paths.{Path, spells}

-- words j − m to j + k of L, or words 0 to j + k if j < m
abbrev pub window_words : Code → List ℕ → ℕ → ℕ → List ℕ
window_words c L j k =
    let m = c.window.memory in
    if ltb j m then take (j + 1 + k) L else take (m + 1 + k) (drop (j - m) L)

-- a path reads the words up to block j and k words ahead, "from any state, or [..] from state 0 if" j < m
pub record Follows (c : Code) (L : List ℕ) (j k : ℕ) : Type 0 where
  pub state : ℕ
  pub blocks : List ℕ
  pub inside : state < length c.table
  pub begin : j < c.window.memory → state ≡ 0
  pub path : Path c.table state blocks
  pub words : spells c.table state blocks ≡ window_words c L j k
