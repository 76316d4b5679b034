-- "A table is accepted when every recording under it, followed bit by bit from the constraint start, always finds a
-- next state, and its m and a do what a window must."
-- In order: Accepted, the sentence; accepted, the test; Sound, what encoding and decoding need of a table.
-- Assumes nothing.
use Rattle.std.specs.Prelude.{Bool, ◌&&◌, ◌^◌, ◌<◌, length}
use Rattle.table.specs.Rows.{Code}
use Rattle.table.specs.Paths.{Closed, Full}
use Rattle.window.specs.Window.{Window}
use Rattle.window.specs.Works.{works}
use Rattle.record_obeys.specs.Obeys.{Obeys, obeys}

-- the table is accepted
abbrev pub Accepted : Code → Type 0
Accepted c = Obeys c × Window c.table c.window

-- the test of acceptance
abbrev pub accepted : Code → Bool
accepted c = obeys c && works c.table c.window

-- a table with a state, whose edges lead to states, 2^p a state, whose window does what a window must, and a tail datum
-- that is a block
pub record Sound (c : Code) : Type 0 where
  pub some : 0 < length c.table
  pub closed : Closed c.table
  pub full : Full (2 ^ c.p) c.table
  pub window : Window c.table c.window
  pub tail : c.tail < 2 ^ c.p
